-- The list of a cell and its chain; a kept store after one call: its lists, and that it is kept.
use Rattle.std.proofs.Common.{◌≡◌, ℕ, ◌<◌, true, List, Option, map, length, sym, ap, ◌∙◌, subst, arith}
use mathlib.Core.Path.{fun_ext}
use Rattle.std.proofs.lemmas.Bool.{lt-ltb}
use Rattle.std.proofs.lemmas.Bool.Decides.{nat_tests}
use Rattle.words.specs.declared.version.Version.{Version}
use Rattle.tables.specs.Versions.{sinks}
use Rattle.tables.specs.Table.{put}
use Rattle.chains.specs.declared.record.Record.{Record}
use Rattle.chains.specs.Chain.{version_of, along}
use Rattle.chains.specs.Store.{Store, link, path_of, list, ChainOf}
use Rattle.chains.specs.Kept.{Sized, Kept}
use Rattle.chains.proofs.Keeps.{Pathed}

-- a cell's list is what stands along its chain
pub own_list : (s : Store) (c : ℕ) → c < s.cells → list s c ≡ along s.records (link s c)
own_list s c l = simp (lt-ltb c s.cells l)

-- what is said of the chain of a cell, said of the cell's path
pub on_chain : {s : Store} {c : ℕ} {rs : List Record} {first : Option ℕ} → ChainOf s c rs first → (P : List Record → Option ℕ → Type 0) → P rs first → P s.records (link s c)
on_chain {s} {c} {rs} {first} chain P h =
    subst (λ (l : Option ℕ). P s.records l) chain.led (subst (λ (xs : List Record). P xs first) chain.lent h)

-- after a call: kept, with the list of cell c replaced by vs
pub record Changed (s s' : Store) (c : ℕ) (vs : List Version) : Type 0 where
  pub kept : Kept s'
  pub lists : list s' ≡ put (list s) c vs

-- the paths P of the new store give vs along chain c, and elsewhere what was there
pub changed : (s s' : Store) (c : ℕ) (vs : List Version) (P : ℕ → List ℕ) → Kept s → c < s.cells → s'.cells ≡ s.cells → Sized s' → Pathed s' P → s'.count ≡ length (P s'.cells) → map (version_of s'.records) (P c) ≡ vs → ((a : ℕ) → a < s.cells → (a ≡ c → ⊥) → map (version_of s'.records) (P a) ≡ map (version_of s.records) (path_of s a)) → sinks vs ≡ true → Changed s s' c vs
changed s s' c vs P kept in' same sized done counted here other sink =
    let now : (a : ℕ) → along s'.records (link s' a) ≡ map (version_of s'.records) (P a) = λ a. ap (λ (F : ℕ → List ℕ). map (version_of s'.records) (F a)) done.paths in
    let lists : list s' ≡ put (list s) c vs = fun_ext (λ a. listed s s' c vs in' same (now c ∙ here) a (λ l ne. now a ∙ other a l ne)) in
    record {
      kept = record {
        ends = done.ends;
        tallied = done.tallied;
        full = done.full;
        counted = counted ∙ sym (ap (λ (F : ℕ → List ℕ). length (F s'.cells)) done.paths);
        sinking = λ a. ap (λ (f : ℕ → List Version). sinks (f a)) lists ∙ sunk s c vs a (kept.sinking a) sink;
        sized = sized;
      };
      lists = lists;
    }
  where
    listed : (s s' : Store) (c : ℕ) (vs : List Version) → c < s.cells → s'.cells ≡ s.cells → along s'.records (link s' c) ≡ vs → (a : ℕ) → (a < s.cells → (a ≡ c → ⊥) → along s'.records (link s' a) ≡ along s.records (link s a)) → list s' a ≡ put (list s) c vs a
    listed s s' c vs in' same here a other = grind (arith, nat_tests)

    sunk : (s : Store) (c : ℕ) (vs : List Version) (a : ℕ) → sinks (list s a) ≡ true → sinks vs ≡ true → sinks (put (list s) c vs a) ≡ true
    sunk s c vs a old new = grind (arith, nat_tests)
