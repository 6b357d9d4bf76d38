-- Lists of calls on a table: what each call does, and the tables that calls can reach from clear.
use Rattle.std.specs.Prelude.{◌≡◌, ℕ, true}
use Rattle.words.specs.Outcome.{Outcome, accepted, refused}
use Rattle.words.specs.declared.version.Version.{Version}
use Rattle.tables.specs.declared.call.TableCall.{TableCall}
use Rattle.tables.specs.declared.call.TableCall.TheVariants.{Clear, Cells, FreePlaces, Length, Version as VersionAt, Insert, Raise, Mark, Cut as CutAt}
use Rattle.tables.specs.declared.call.Answer.{Answer}
use Rattle.tables.specs.declared.call.Answer.TheVariants.{Number, Version as TheVersion}
use Rattle.tables.specs.Versions.{falls, raised, marked}
use Rattle.tables.specs.Table.{Table, Cleared, Inserted, Altered, Cut, free_answer, length_answer, version_answer, insert_answer, raise_answer, mark_answer, cut_answer}

-- an outcome whose answer is a number, and one whose answer is a version
abbrev pub numbered : Outcome ℕ → Outcome Answer
numbered (accepted n) = accepted (Number n)
numbered (refused n d) = refused n d

abbrev pub versioned : Outcome Version → Outcome Answer
versioned (accepted v) = accepted (TheVersion v)
versioned (refused n d) = refused n d

-- what a call answers
abbrev pub call_answer : Table → TableCall → Outcome Answer
call_answer t Clear = accepted (Number 0)
call_answer t Cells = accepted (Number t.cells)
call_answer t (FreePlaces c) = numbered (free_answer t c)
call_answer t (Length c) = numbered (length_answer t c)
call_answer t (VersionAt c i) = versioned (version_answer t c i)
call_answer t (Insert c s x) = numbered (insert_answer t c s)
call_answer t (Raise c s r) = numbered (raise_answer t c s)
call_answer t (Mark c s e) = numbered (mark_answer t c s)
call_answer t (CutAt c s) = numbered (cut_answer t c s)

-- P after an accepted call, Q after a refused one
abbrev pub Upon : {A : Type 0} → Outcome A → Type 0 → Type 0 → Type 0
Upon (accepted a) P Q = P
Upon (refused n d) P Q = Q

-- what a call makes of the table t
abbrev pub Step : Table → TableCall → Table → Type 0
Step t Clear u = Cleared t u
Step t Cells u = u ≡ t
Step t (FreePlaces c) u = u ≡ t
Step t (Length c) u = u ≡ t
Step t (VersionAt c i) u = u ≡ t
Step t (Insert c s x) u = Upon (insert_answer t c s) (Inserted t u c s x) (u ≡ t)
Step t (Raise c s r) u = Upon (raise_answer t c s) (Altered t u c s (raised r)) (u ≡ t)
Step t (Mark c s e) u = Upon (mark_answer t c s) (Altered t u c s (marked e)) (u ≡ t)
Step t (CutAt c s) u = Upon (cut_answer t c s) (Cut t u c s) (u ≡ t)

-- the tables that some list of calls reaches from clear
pub data Reached : Table → Type 0 where
  start : {t u : Table} → Cleared t u → Reached u
  next : {t u : Table} (call : TableCall) → Reached t → Step t call u → Reached u

-- along every list each write stamp is below the one before it
abbrev pub Strict : Table → Type 0
Strict t = (c : ℕ) → falls (t.versions c) ≡ true
