-- Inserting a version into a cell's chain is inserting it into the cell's list by its stamp.
use Rattle.std.proofs.Common.{◌≡◌, ℕ, ◌≤◌, true, false, List, [], ◌∷◌, ◌++◌, map, length, Some, None, Option, sym, refl, ap, ◌∙◌, arith}
use mathlib.Core.Path.{subst⁻¹}
use Rattle.std.proofs.lemmas.List.{map-append}
use Rattle.std.proofs.lemmas.Bool.Decides.{nat_tests}
use Rattle.words.specs.Outcome.{refuse}
use Rattle.words.specs.declared.refusal.Refusal.TheVariants.{NoPlace}
use Rattle.words.specs.declared.version.Version.{Version}
use Rattle.words.specs.Version.{new_version}
use Rattle.tables.specs.Versions.{top, sinks, holds, with_version}
use Rattle.tables.specs.Table.{Inserted, insert_answer, put}
use Rattle.tables.proofs.Order.{sinks_with}
use Rattle.chains.specs.declared.record.Record.{Record}
use Rattle.chains.specs.Chain.{version_of, path, along}
use Rattle.chains.specs.Store.{Store, link, list, chained, taken, Touches, ChainOf, Unused}
use Rattle.chains.specs.Kept.{Kept}
use Rattle.chains.specs.Walk.{above, low, Placed}
use Rattle.chains.proofs.Paths.{at_none}
use Rattle.chains.proofs.Changes.{own_list, on_chain, Changed}
use Rattle.chains.proofs.Moves.{Split}
use Rattle.chains.proofs.Takes.{free_path, some_free, take_touches, take_unused, takes}

with_split : (v : Version) (us vs : List Version) → above v.write us ≡ true → low v.write vs ≡ true → with_version v (us ++ vs) ≡ us ++ (v ∷ vs)
with_split v [] [] h l = refl
with_split v [] (w ∷ ws) h l = grind (arith, nat_tests)
with_split v (u ∷ us) vs h l = grind (arith, nat_tests, with_split v us vs)

-- no record is free where there is no free link
pub none_free : (s : Store) → Kept s → s.free ≡ None → s.count ≡ 0
none_free s k e = k.counted ∙ ap length (at_none s.records (link s s.cells) (free_path s ∙ e))

pub no_place : {s : Store} → Kept s → {c : ℕ} {rs : List Record} {first : Option ℕ} → ChainOf s c rs first → (stamp : ℕ) → holds stamp (along rs first) ≡ false → s.free ≡ None → refuse NoPlace ≡ insert_answer (chained s) c stamp
no_place {s} k {c} {rs} {first} chain stamp new e =
    let none = none_free s k e in
    let in' = chain.within in
    let own = on_chain chain (λ (xs : List Record) (l : Option ℕ). holds stamp (along xs l) ≡ false) new in
    grind (arith, nat_tests)

-- all that is said of an accepted insert
pub record InsertDone (s s' : Store) (c stamp value : ℕ) : Type 0 where
  pub kept : Kept s'
  pub inserted : Inserted (chained s) (chained s') c stamp value
  pub unused : Unused s s'

module _ {s : Store} (kept : Kept s) {c : ℕ} {rs : List Record} {first : Option ℕ} (chain : ChainOf s c rs first) {stamp : ℕ} {newer older : Option ℕ} (there : Placed rs first stamp newer older) (f : ℕ) (free : s.free ≡ Some f) where
  place : Placed s.records (link s c) stamp newer older
  place = on_chain chain (λ (xs : List Record) (l : Option ℕ). Placed xs l stamp newer older) there

  parts : Split s c place.front newer older
  parts = record { within = chain.within; split = place.split; onward = place.onward; last = place.last }

  pub insert_touches : Touches s c newer f
  insert_touches = take_touches kept f free parts

  module _ (value : ℕ) (fits : stamp ≤ top) (v : Version) (new : v ≡ new_version stamp value) where
    abbrev front : List Version
    front = map (version_of s.records) place.front

    -- the new version between the two parts of the list
    between : with_version (new_version stamp value) (list s c) ≡ front ++ (v ∷ along s.records older)
    between =
        ap (with_version (new_version stamp value)) (own_list s c chain.within ∙ ap (map (version_of s.records)) place.split ∙ map-append (version_of s.records) place.front (path s.records older)) ∙
        with_split (new_version stamp value) front (along s.records older) place.high place.rest ∙ ap (λ (u : Version). front ++ (u ∷ along s.records older)) (sym new)

    done : Changed s (taken s c newer older f v) c (front ++ (v ∷ along s.records older))
    done = takes kept f free parts v (ap sinks (sym between) ∙ sinks_with top (new_version stamp value) (list s c) fits (kept.sinking c))

    pub inserts : (s' : Store) → s' ≡ taken s c newer older f v → InsertDone s s' c stamp value
    inserts s' e =
        let some = some_free kept f free in
        subst⁻¹ (λ (z : Store). InsertDone s z c stamp value) e
        (record {
          kept = done.kept;
          inserted = record {
            only = record { cells = refl; versions = done.lists ∙ ap (put (list s) c) (sym between) };
            taken = omega arith;
            least = λ q ne. omega arith;
            most = λ q ne. omega arith;
          };
          unused = take_unused kept f free parts v;
        })
