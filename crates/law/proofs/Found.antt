-- What the searches of the map's rules find in a good model.
use Rattle.std.proofs.Common.{◌≡◌, ℕ, ◌<◌, ◌≤◌, cond, ltb, ◌⊎◌, List, Some, sym, ap, ◌∙◌, subst, inl, inr, ⊎_elim, arith}
use Rattle.std.proofs.lemmas.Bool.Decides.{nat_tests}
use Rattle.words.specs.Outcome.{Outcome, accepted, refused, refuse}
use Rattle.words.specs.declared.refusal.Refusal.TheVariants.{NoCell}
use Rattle.words.specs.declared.status.Status.TheVariants.{Aborted}
use Rattle.words.specs.declared.version.Version.{Version}
use Rattle.tables.specs.Versions.{top}
use Rattle.rules.specs.Model.{Model, table_of}
use Rattle.rules.specs.Search.{reach, visible, newest, newest_below, search}
use Rattle.law.specs.History.{History}
use Rattle.law.proofs.Under.{under}
use Rattle.law.proofs.State.{committed}
use Rattle.law.proofs.Fitting.{Fit, fit_reached, newest_fitting, newest_refuses}
use Rattle.law.proofs.Searches.{Finds, Lacks, VisibleSays, visible_says, NewestSays, newest_says, Uncommitted}
use Rattle.law.proofs.Good.{state, Good}

module _ (m : Model) (h : History) (good : Good m h) where
  -- a version's stamp is far below 2^64
  pub fitting : (c : ℕ) → Fit (m.lists c)
  fitting c t x e = grind arith

  all_seen : (c : ℕ) → reach (m.lists c) ≡ m.lists c
  all_seen c = fit_reached (m.lists c) (good.falling c) (fitting c)

  -- a search in a cell that is there, and in one that is not
  pub searched : (found : List Version → Outcome Version) (free : ℕ → ℕ) (c : ℕ) → search found (table_of free m) c ≡ cond (ltb c m.cells) (found (m.lists c)) (refuse NoCell)
  searched found free c = grind (arith, nat_tests, all_seen)

  pub seen_below : (c f : ℕ) → VisibleSays f (λ u. under u (m.lists c)) (visible f (m.lists c))
  seen_below c f = visible_says f (m.lists c) (good.falling c)

  -- an accepted search
  accepted_found : (found : List Version → Outcome Version) (free : ℕ → ℕ) (c : ℕ) (v : Version) → search found (table_of free m) c ≡ accepted v → (c < m.cells) × (found (m.lists c) ≡ accepted v)
  accepted_found found free c v e = let z = searched found free c in grind (arith, nat_tests)

  pub visible_found : (f : ℕ) (free : ℕ → ℕ) (c : ℕ) (v : Version) → search (visible f) (table_of free m) c ≡ accepted v → (c < m.cells) × Finds (λ g. g ≡ Aborted) f (λ u. under u (m.lists c)) v
  visible_found f free c v e =
      let a = accepted_found (visible f) free c v e in
      (a.0, subst (VisibleSays f (λ u. under u (m.lists c))) a.1 (seen_below c f))

  pub newest_below_found : (f : ℕ) (free : ℕ → ℕ) (c : ℕ) (v : Version) → search (newest_below f) (table_of free m) c ≡ accepted v → (c < m.cells) × Finds Uncommitted f (λ u. under u (m.lists c)) v
  newest_below_found f free c v e =
      let a = accepted_found (newest_below f) free c v e in
      (a.0, subst (NewestSays f (λ u. under u (m.lists c))) a.1 (newest_says f (m.lists c) (good.falling c)))

  -- a refused search: the cell is not there, or the search in it was refused
  refused_found : (found : List Version → Outcome Version) (free : ℕ → ℕ) (c n d : ℕ) → search found (table_of free m) c ≡ refused n d → ((m.cells ≤ c) × (n ≡ 2)) ⊎ ((c < m.cells) × (found (m.lists c) ≡ refused n d))
  refused_found found free c n d e = let z = searched found free c in grind (arith, nat_tests)

  pub visible_refused : (f : ℕ) (free : ℕ → ℕ) (c n d : ℕ) → search (visible f) (table_of free m) c ≡ refused n d → ((m.cells ≤ c) × (n ≡ 2)) ⊎ ((c < m.cells) × VisibleSays f (λ u. under u (m.lists c)) (refused n d))
  visible_refused f free c n d e = ⊎_elim
      (λ z. inl z)
      (λ a. inr (a.0, subst (VisibleSays f (λ u. under u (m.lists c))) a.1 (seen_below c f)))
      (refused_found (visible f) free c n d e)

  pub newest_below_refused : (f : ℕ) (free : ℕ → ℕ) (c n d : ℕ) → search (newest_below f) (table_of free m) c ≡ refused n d → ((m.cells ≤ c) × (n ≡ 2)) ⊎ ((c < m.cells) × (n ≡ 9) × Lacks Uncommitted f (λ u. under u (m.lists c)))
  newest_below_refused f free c n d e = ⊎_elim
      (λ z. inl z)
      (λ a. inr (a.0, newest_refuses f (m.lists c) n d a.1, subst (NewestSays f (λ u. under u (m.lists c))) a.1 (newest_says f (m.lists c) (good.falling c))))
      (refused_found (newest_below f) free c n d e)

  -- the newest is the newest below 2^64
  pub newest_searched : (free : ℕ → ℕ) (c : ℕ) → search newest (table_of free m) c ≡ search (newest_below top) (table_of free m) c
  newest_searched free c = searched newest free c ∙ ap (λ o. cond (ltb c m.cells) o (refuse NoCell)) (newest_fitting (m.lists c) (good.falling c) (fitting c)) ∙ sym (searched (newest_below top) free c)

  -- what is found is committed
  pub found_committed : (passed : _) (f c : ℕ) (v : Version) → Finds passed f (λ u. under u (m.lists c)) v → committed (state m good.pass) c v.write ≡ Some v.value
  found_committed passed f c v found = good.inv.agrees.stands c v.write v found.here found.done
