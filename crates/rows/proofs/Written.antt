-- What a row's vector holds after a write of the first version with a stamp.
use Rattle.std.proofs.Common.{◌≡◌, ℕ, true, leb, eqb, List, length, get_or, set, position, Some, sym, ap, ◌∙◌}
use Rattle.std.specs.List.{refill}
use Rattle.std.proofs.lemmas.List.{length-set}
use Rattle.arrayvec.proofs.ArrayVecLemmas.{items-with_items}
use Rattle.words.specs.declared.version.Version.{Version}
use Rattle.words.specs.Version.{absent}
use Rattle.tables.specs.Versions.{top, sinks, at_stamp}
use Rattle.tables.proofs.Order.{ordered_at_stamp}
use Rattle.rows.proofs.Found.{changed_is}

-- v is written in the place of the first version stamped s: v is f of that version, and f keeps the stamp
module _ (s : ℕ) {vs xs : List Version} {i : ℕ} {v : Version} (f : Version → Version) (keeps : (w : Version) → (f w).write ≡ w.write) (found : position (λ w. eqb w.write s) vs ≡ Some i) (same : xs ≡ vs) (is : v ≡ f (get_or xs i absent)) where
  pub written_is : refill (length vs) vs (set xs i v) ≡ at_stamp s f vs
  written_is =
      items-with_items (record { items = vs }) (set xs i v) (length-set xs i v ∙ ap length same) ∙ ap (set xs i) is ∙ ap (λ ys. set ys i (f (get_or ys i absent))) same ∙ sym (changed_is s f vs i found)

  pub written_sinks : sinks vs ≡ true → sinks (refill (length vs) vs (set xs i v)) ≡ true
  written_sinks h = ap sinks written_is ∙ ordered_at_stamp leb s f keeps top vs ∙ h
