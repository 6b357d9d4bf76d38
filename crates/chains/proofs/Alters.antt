-- Rewriting the version of the record that was found is changing the first version of that stamp.
use Rattle.std.proofs.Common.{Bool, cond, Some, Option, is_some, IfSome, Result, MatchResult, ok_or, ◌≡◌, ℕ, false, leb, List, [], ◌∷◌, ◌++◌, map, None, sym, refl, ap, ◌∙◌, arith}
use mathlib.Core.Path.{subst⁻¹}
use Rattle.std.proofs.lemmas.List.{map-append, drop-set-lt}
use Rattle.std.proofs.lemmas.Bool.Decides.{nat_tests}
use Rattle.words.specs.Outcome.{accepted, refuse}
use Rattle.words.specs.declared.refusal.Refusal.{Refusal}
use Rattle.words.specs.declared.refusal.Refusal.TheVariants.{NoVersion}
use Rattle.words.specs.Status.{pending}
use Rattle.words.specs.declared.version.Version.{Version}
use Rattle.tables.specs.Versions.{top, sinks, holds, holds_pending, at_stamp}
use Rattle.tables.specs.Table.{Altered, put, raise_answer, mark_answer}
use Rattle.tables.proofs.Holds.{none_pending}
use Rattle.tables.proofs.Order.{ordered_at_stamp}
use Rattle.chains.specs.declared.record.Record.{Record}
use Rattle.chains.specs.Chain.{version_of, path, along}
use Rattle.chains.specs.Store.{Store, link, path_of, list, chained, rewrite, ChainOf, Unused}
use Rattle.chains.specs.Kept.{Kept}
use Rattle.chains.specs.Walk.{Found, StampedAt}
use Rattle.chains.proofs.Rewrites.{found_used, rewrites}
use Rattle.chains.proofs.Changes.{own_list, on_chain}

at_split : (s : ℕ) (f : Version → Version) (us : List Version) (v : Version) (vs : List Version) → holds s us ≡ false → v.write ≡ s → at_stamp s f (us ++ (v ∷ vs)) ≡ us ++ (f v ∷ vs)
at_split s f [] v vs none e = grind (arith, nat_tests)
at_split s f (u ∷ us) v vs none e = grind (arith, nat_tests, at_split s f us v vs)

pending_split : (s : ℕ) (us : List Version) (v : Version) (vs : List Version) → holds s us ≡ false → v.write ≡ s → holds_pending s (us ++ (v ∷ vs)) ≡ pending v.status
pending_split s [] v vs none e = grind (arith, nat_tests)
pending_split s (u ∷ us) v vs none e = grind (arith, nat_tests, pending_split s us v vs)

-- all that is said of an accepted raise or mark
pub record AlterDone (s s' : Store) (c stamp : ℕ) (f : Version → Version) : Type 0 where
  pub kept : Kept s'
  pub altered : Altered (chained s) (chained s') c stamp f
  pub unused : Unused s s'

-- a search for a stamp along a cell's chain
pub stamped_at : {s : Store} → Kept s → {c : ℕ} {rs : List Record} {first : Option ℕ} → ChainOf s c rs first → (t : ℕ) (o : Option ℕ) → is_some o ≡ holds t (along rs first) → IfSome o (λ i. Found rs (path rs first) t i) → (r : Result ℕ Refusal) → r ≡ ok_or o NoVersion → MatchResult r (λ i. StampedAt s c t i) (λ e. refuse e ≡ raise_answer (chained s) c t)
stamped_at {s} k {c} chain t o test found r is =
    subst⁻¹ (λ (z : Result ℕ Refusal). MatchResult z (λ i. StampedAt s c t i) (λ e. refuse e ≡ raise_answer (chained s) c t)) is
    (go o (on_chain chain (λ (xs : List Record) (l : Option ℕ). (is_some o ≡ holds t (along xs l)) × IfSome o (λ i. Found xs (path xs l) t i)) (test, found)))
  where
    go : (o : Option ℕ) → (is_some o ≡ holds t (along s.records (link s c))) × IfSome o (λ i. Found s.records (path_of s c) t i) → MatchResult (ok_or o NoVersion) (λ i. StampedAt s c t i) (λ e. refuse e ≡ raise_answer (chained s) c t)
    go None (missed, _) = let w = chain.within in let none = sym missed in grind (arith, nat_tests)
    go (Some i) (held, at) =
        record { within = chain.within; lent = omega (arith, found_used k chain.within at, k.sized.lent); held = ap (holds t) (own_list s c chain.within) ∙ sym held; found = at }

pub not_marked : (s : Store) (c t : ℕ) (r : Refusal) → refuse r ≡ raise_answer (chained s) c t → refuse r ≡ mark_answer (chained s) c t
not_marked s c t r e = grind (arith, nat_tests, none_pending t (list s c))

module _ {s : Store} (kept : Kept s) {c stamp i : ℕ} (at : StampedAt s c stamp i) where
  abbrev front : List Version
  front = map (version_of s.records) at.found.front

  abbrev back : List Version
  back = map (version_of s.records) at.found.back

  abbrev v : Version
  v = version_of s.records i

  parts : list s c ≡ front ++ (v ∷ back)
  parts = own_list s c at.within ∙ ap (map (version_of s.records)) at.found.split ∙ map-append (version_of s.records) at.found.front (i ∷ at.found.back)

  pub found_status : holds_pending stamp (list s c) ≡ pending v.status
  found_status = ap (holds_pending stamp) parts ∙ pending_split stamp front v back at.found.before at.found.here

  pub raise_answers : accepted 0 ≡ raise_answer (chained s) c stamp
  raise_answers = let w = at.within in let h = at.held in grind (arith, nat_tests)

  pub mark_answers : (b : Bool) → pending v.status ≡ b → cond b (accepted 0) (refuse NoVersion) ≡ mark_answer (chained s) c stamp
  mark_answers b e = let w = at.within in let h = found_status ∙ e in grind (arith, nat_tests)

  module _ (f : Version → Version) (same : (u : Version) → (f u).write ≡ u.write) (v' : Version) (is : v' ≡ f v) where
    changed : at_stamp stamp f (list s c) ≡ front ++ (v' ∷ back)
    changed = ap (at_stamp stamp f) parts ∙ at_split stamp f front v back at.found.before at.found.here ∙ ap (λ (u : Version). front ++ (u ∷ back)) (sym is)

    pub alters : AlterDone s (rewrite s i v') c stamp f
    alters =
        let sink = ap sinks (sym changed) ∙ ordered_at_stamp leb stamp f same top (list s c) ∙ kept.sinking c in
        let done = rewrites kept at.within at.found v' sink in
        record {
          kept = done.kept;
          altered = record { only = record { cells = refl; versions = done.lists ∙ ap (put (list s) c) (sym changed) }; free = λ q. refl };
          unused = record { cells = refl; used = refl; heads = refl; records = drop-set-lt s.used s.records i _ (found_used kept at.within at.found) };
        }
