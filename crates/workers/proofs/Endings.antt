-- commit and abort: what the marks of the writes make of the table and of the worker.
use Rattle.std.proofs.Common.{◌≡◌, ℕ, min, List, length, take, eq-eqb}
use Rattle.words.specs.Outcome.{accepted}
use Rattle.words.specs.declared.status.Ending.TheVariants.{Commit as Commits', Abort as Aborts'}
use Rattle.tables.specs.Table.{Table}
use Rattle.rules.specs.declared.entry.ReadEntry.{ReadEntry}
use Rattle.rules.specs.declared.entry.WriteEntry.{WriteEntry}
use Rattle.rules.specs.Model.{sealed, Worker, at_stage}
use Rattle.rules.specs.Rules.{steps}
use Rattle.rules.specs.Turns.{pass_stamp, at_rest, commit_by, abort_by}
use Rattle.rules.specs.Beneath.{marks, Steps}
use Rattle.rules.proofs.Marked.{all_marked}

-- a sealed pass, numbered w, whose writes were marked
module _ (t u : Table) (w : ℕ) (x : Worker) (rs : List ReadEntry) (ws : List WriteEntry) (k : ℕ) where
  abbrev pass : Worker
  pass = at_stage x (sealed rs ws k)

  pub committed : k ≡ steps rs ws → Steps t (marks Commits' (pass_stamp x w) ws) u → (accepted (pass_stamp x w), (at_rest 0 x, u.versions)) ≡ commit_by t w pass
  committed all done = rw (eq-eqb k (steps rs ws) all) (λ i. (accepted (pass_stamp x w), (at_rest 0 x, (all_marked Commits' (pass_stamp x w) ws t u done).1 i)))

  pub aborted : (n : ℕ) → n ≡ min k (length ws) → Steps t (marks Aborts' (pass_stamp x w) (take n ws)) u → (accepted n, (at_rest 10 x, u.versions)) ≡ abort_by t w pass
  aborted n size done = rw (← size) (λ i. (accepted n, (at_rest 10 x, (all_marked Aborts' (pass_stamp x w) (take n ws) t u done).1 i)))
