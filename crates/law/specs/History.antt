-- What calls and their answers say that passes and looks did. Refused calls say nothing.
use Rattle.std.specs.Prelude.{ℕ, ◌+◌, Bool, true, false, List, [], ◌∷◌}
use Rattle.tables.specs.Table.{put}
use Rattle.words.specs.Outcome.{Outcome, accepted, refused}
use Rattle.rules.specs.declared.call.Call.{Call}
use Rattle.rules.specs.declared.call.Call.TheVariants.{Begin, Pulse, Sync, Read, Write, Seal, Install, Stamp, Check, Commit, Abort, Look, Close, Show, Commits, Collect}
use Rattle.law.specs.Plain.{Op, reads, writes, Pass}

pub record Event : Type 0 where
  pub call : Call
  pub answer : Outcome ℕ

-- what a worker is doing: nothing; a pass with its operations, sealed or not; a look with its floor
pub data Doing : Type 0 where
  nothing : Doing
  in_pass : Pass → Bool → Doing
  in_look : ℕ → Doing

-- a read of a look: its floor, the cell and the value that was answered
pub record Glance : Type 0 where
  pub floor : ℕ
  pub cell : ℕ
  pub value : ℕ

-- what every worker is doing and the timestamp it last got, the committed passes, the reads of looks
pub record History : Type 0 where
  pub doing : ℕ → Doing
  pub last : ℕ → ℕ
  pub passes : List Pass
  pub glances : List Glance

-- before the first call
abbrev pub no_history : History
no_history = record { doing = λ w. nothing; last = λ w. 256 + w; passes = []; glances = [] }

abbrev pub now_doing : History → ℕ → Doing → History
now_doing h w d = record { doing = put h.doing w d; last = h.last; passes = h.passes; glances = h.glances }

abbrev pub stamped : History → ℕ → ℕ → History
stamped h w s = record { doing = h.doing; last = put h.last w s; passes = h.passes; glances = h.glances }

-- an operation of a running pass
abbrev pub with_op : Op → Doing → Doing
with_op o nothing = nothing
with_op o (in_pass p s) = in_pass (record { stamp = p.stamp; ops = o ∷ p.ops }) s
with_op o (in_look f) = in_look f

abbrev pub sealing : Doing → Doing
sealing nothing = nothing
sealing (in_pass p s) = in_pass p true
sealing (in_look f) = in_look f

-- a read of a running look
abbrev pub with_glance : ℕ → ℕ → Doing → List Glance → List Glance
with_glance c v nothing gs = gs
with_glance c v (in_pass p s) gs = gs
with_glance c v (in_look f) gs = record { floor = f; cell = c; value = v } ∷ gs

-- the running pass among the committed ones
abbrev pub with_pass : Doing → List Pass → List Pass
with_pass nothing ps = ps
with_pass (in_pass p s) ps = p ∷ ps
with_pass (in_look f) ps = ps

abbrev pub has_read : History → ℕ → ℕ → ℕ → History
has_read h w c v =
    record {
      doing = put h.doing w (with_op (reads c v) (h.doing w));
      last = h.last;
      passes = h.passes;
      glances = with_glance c v (h.doing w) h.glances;
    }

abbrev pub has_committed : History → ℕ → History
has_committed h w =
    record {
      doing = put h.doing w nothing;
      last = h.last;
      passes = with_pass (h.doing w) h.passes;
      glances = h.glances;
    }

-- a call that was accepted with the number n
abbrev pub told_by : Call → ℕ → History → History
told_by (Begin w units) n h = now_doing (stamped h w n) w (in_pass (record { stamp = n; ops = [] }) false)
told_by (Pulse w units) n h = stamped h w n
told_by (Sync w o) n h = h
told_by (Read w c) n h = has_read h w c n
told_by (Write w c x) n h = now_doing h w (with_op (writes c x) (h.doing w))
told_by (Seal w) n h = now_doing h w (sealing (h.doing w))
told_by (Install w) n h = h
told_by (Stamp w) n h = h
told_by (Check w) n h = h
told_by (Commit w) n h = has_committed h w
told_by (Abort w) n h = now_doing h w nothing
told_by (Look w) n h = now_doing h w (in_look n)
told_by (Close w) n h = now_doing h w nothing
told_by (Show c) n h = h
told_by Commits n h = h
told_by (Collect c) n h = h

abbrev pub told_with : Call → Outcome ℕ → History → History
told_with call (accepted n) h = told_by call n h
told_with call (refused n d) h = h

-- the history of events, the latest first
abbrev pub history : List Event → History
history [] = no_history
history (e ∷ es) = told_with e.call e.answer (history es)
