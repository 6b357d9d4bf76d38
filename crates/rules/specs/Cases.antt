-- The worked cases, computed from the rules: each is a list of calls on a map, with its answers.
use Rattle.std.specs.Prelude.{◌≡◌, ℕ, ◌-◌, ◌^◌, List, [], ◌∷◌, length}
use Rattle.words.specs.Outcome.{Outcome, accepted, refused}
use Rattle.words.specs.Version.{first_version, new_version}
use Rattle.rules.specs.declared.call.Call.{Call}
use Rattle.rules.specs.declared.call.Call.TheVariants.{Begin, Pulse, Sync, Read, Write, Seal, Install, Stamp, Check, Commit, Abort, Look, Close, Show, Commits, Collect}
use Rattle.rules.specs.Model.{Model, idle, new_map, with_worker, with_list}
use Rattle.rules.specs.Rules.{outcome}

-- the answers to a list of calls, on a table of 8 places a cell
abbrev pub answers : Model → List Call → List (Outcome ℕ)
answers m [] = []
answers m (call ∷ calls) =
    (outcome (λ c. 8 - length (m.lists c)) m call).0 ∷ answers (outcome (λ c. 8 - length (m.lists c)) m call).1 calls

-- accepted with a number; refused with number and detail
abbrev pub ok : ℕ → Outcome ℕ
ok n = accepted n

abbrev pub no' : ℕ → ℕ → Outcome ℕ
no' n d = refused n d

-- worker 0's clock two units before its end
abbrev pub late_map : Model
late_map = with_worker (new_map 4 128) 0 (record { clock = 2 ^ 50 - 2; boost = 0; last = 1; stage = idle })

-- a cell that holds the stamp of a pass that has not installed yet, and one that holds nothing
abbrev pub odd_map : Model
odd_map = with_list (with_list (new_map 4 128) 3 (new_version 1280 5 ∷ first_version ∷ [])) 4 []

-- the later timestamp commits first, and the earlier pass's write counts below it
abbrev pub LaterFirst : Type 0
LaterFirst = answers (new_map 4 128) (Begin 0 5 ∷ Begin 1 9 ∷ Write 0 3 2850 ∷ Write 1 3 3000 ∷ Seal 1 ∷ Install 1 ∷ Check 1 ∷ Commit 1 ∷ Seal 0 ∷ Install 0 ∷ Check 0 ∷ Commit 0 ∷ Show 3 ∷ []) ≡ ok 1280 ∷ ok 2305 ∷ ok 1 ∷ ok 1 ∷ ok 2 ∷ ok 1 ∷ ok 0 ∷ ok 2305 ∷ ok 2 ∷ ok 1 ∷ ok 0 ∷ ok 1280 ∷ ok 3000 ∷ []

-- units count as at least 1
abbrev pub FewestUnits : Type 0
FewestUnits = answers (new_map 4 128) (Begin 2 0 ∷ []) ≡ ok 514 ∷ []

-- units count as at most 36,000,000,000
abbrev pub MostUnits : Type 0
MostUnits = answers (new_map 4 128) (Begin 0 36000000001 ∷ []) ≡ ok 9216000000000 ∷ []

-- an aborted pass has its worker's clock boosted by 10
abbrev pub Boosted : Type 0
Boosted = answers (new_map 4 128) (Begin 0 5 ∷ Abort 0 ∷ Begin 0 1 ∷ []) ≡ ok 1280 ∷ ok 0 ∷ ok 4096 ∷ []

-- a version that was read under a later timestamp is not overwritten
abbrev pub ReadLater : Type 0
ReadLater = answers (new_map 4 128) (Begin 0 5 ∷ Begin 1 9 ∷ Read 1 3 ∷ Seal 1 ∷ Stamp 1 ∷ Check 1 ∷ Commit 1 ∷ Write 0 3 7 ∷ Seal 0 ∷ Install 0 ∷ Check 0 ∷ []) ≡ ok 1280 ∷ ok 2305 ∷ ok 0 ∷ ok 2 ∷ ok 1 ∷ ok 0 ∷ ok 2305 ∷ ok 1 ∷ ok 2 ∷ ok 1 ∷ no' 11 0 ∷ []

-- a read version may be stamped though a newer one is visible; its check tells
abbrev pub Changed : Type 0
Changed = answers (new_map 4 128) (Begin 0 5 ∷ Begin 1 9 ∷ Read 1 3 ∷ Write 0 3 7 ∷ Seal 0 ∷ Install 0 ∷ Check 0 ∷ Commit 0 ∷ Seal 1 ∷ Stamp 1 ∷ Check 1 ∷ []) ≡ ok 1280 ∷ ok 2305 ∷ ok 0 ∷ ok 1 ∷ ok 2 ∷ ok 1 ∷ ok 0 ∷ ok 1280 ∷ ok 2 ∷ ok 1 ∷ no' 10 0 ∷ []

-- a read waits for a pending version, and passes over it once it is aborted
abbrev pub Waits : Type 0
Waits = answers (new_map 4 128) (Begin 0 5 ∷ Begin 1 9 ∷ Write 0 3 7 ∷ Seal 0 ∷ Install 0 ∷ Read 1 3 ∷ Abort 0 ∷ Read 1 3 ∷ []) ≡ ok 1280 ∷ ok 2305 ∷ ok 1 ∷ ok 2 ∷ ok 1 ∷ no' 6 1280 ∷ ok 1 ∷ ok 0 ∷ []

-- a cell is collected up to the newest committed version below the floor
abbrev pub Collects : Type 0
Collects = answers (new_map 2 128) (Begin 0 5 ∷ Begin 1 9 ∷ Write 0 3 2850 ∷ Write 1 3 3000 ∷ Seal 1 ∷ Install 1 ∷ Check 1 ∷ Commit 1 ∷ Seal 0 ∷ Install 0 ∷ Check 0 ∷ Commit 0 ∷ Collect 3 ∷ Pulse 0 6 ∷ Collect 3 ∷ []) ≡ ok 1280 ∷ ok 2305 ∷ ok 1 ∷ ok 1 ∷ ok 2 ∷ ok 1 ∷ ok 0 ∷ ok 2305 ∷ ok 2 ∷ ok 1 ∷ ok 0 ∷ ok 1280 ∷ ok 0 ∷ ok 2816 ∷ ok 1 ∷ []

-- no read is checked before the last read is stamped
abbrev pub AllStampsFirst : Type 0
AllStampsFirst = answers (new_map 4 128) (Begin 0 5 ∷ Read 0 1 ∷ Read 0 2 ∷ Seal 0 ∷ Check 0 ∷ Stamp 0 ∷ Check 0 ∷ Stamp 0 ∷ Stamp 0 ∷ Check 0 ∷ Commit 0 ∷ Check 0 ∷ Check 0 ∷ Commit 0 ∷ Commits ∷ []) ≡ ok 1280 ∷ ok 0 ∷ ok 0 ∷ ok 4 ∷ no' 3 0 ∷ ok 3 ∷ no' 3 0 ∷ ok 2 ∷ no' 3 0 ∷ ok 1 ∷ no' 3 0 ∷ ok 0 ∷ no' 3 0 ∷ ok 1280 ∷ ok 1 ∷ []

-- the reads are checked before the writes: here both would be refused
abbrev pub ReadsBeforeWrites : Type 0
ReadsBeforeWrites = answers (new_map 4 128) (Begin 0 5 ∷ Begin 1 9 ∷ Begin 2 0 ∷ Read 0 1 ∷ Write 0 3 7 ∷ Write 2 1 9 ∷ Seal 2 ∷ Install 2 ∷ Check 2 ∷ Commit 2 ∷ Read 1 3 ∷ Seal 1 ∷ Stamp 1 ∷ Check 1 ∷ Commit 1 ∷ Seal 0 ∷ Stamp 0 ∷ Install 0 ∷ Stamp 0 ∷ Check 0 ∷ Check 0 ∷ Abort 0 ∷ []) ≡ ok 1280 ∷ ok 2305 ∷ ok 514 ∷ ok 0 ∷ ok 1 ∷ ok 1 ∷ ok 2 ∷ ok 1 ∷ ok 0 ∷ ok 514 ∷ ok 0 ∷ ok 2 ∷ ok 1 ∷ ok 0 ∷ ok 2305 ∷ ok 4 ∷ no' 3 0 ∷ ok 3 ∷ ok 2 ∷ no' 10 0 ∷ no' 10 0 ∷ ok 1 ∷ []

-- a write's check waits for a pending version below it, and goes on after the commit
abbrev pub WriteWaits : Type 0
WriteWaits = answers (new_map 4 128) (Begin 0 5 ∷ Begin 1 9 ∷ Write 0 3 1 ∷ Write 1 3 2 ∷ Seal 0 ∷ Install 0 ∷ Seal 1 ∷ Install 1 ∷ Check 1 ∷ Check 0 ∷ Commit 0 ∷ Check 1 ∷ Commit 1 ∷ Show 3 ∷ []) ≡ ok 1280 ∷ ok 2305 ∷ ok 1 ∷ ok 1 ∷ ok 2 ∷ ok 1 ∷ ok 2 ∷ ok 1 ∷ no' 6 1280 ∷ ok 0 ∷ ok 1280 ∷ ok 0 ∷ ok 2305 ∷ ok 2 ∷ []

-- a missing cell is told before a wrong turn, and a missing worker before both
abbrev pub CellBeforeTurn : Type 0
CellBeforeTurn = answers (new_map 4 128) (Read 0 128 ∷ Read 0 3 ∷ Write 0 128 1 ∷ Write 0 3 1 ∷ Read 4 128 ∷ Begin 4 5 ∷ Show 128 ∷ Collect 128 ∷ []) ≡ no' 2 0 ∷ no' 3 0 ∷ no' 2 0 ∷ no' 3 0 ∷ no' 1 0 ∷ no' 1 0 ∷ no' 2 0 ∷ no' 2 0 ∷ []

-- a read answers the pass's own write, and then what it read before, though another pass has written since
abbrev pub OwnWrite : Type 0
OwnWrite = answers (new_map 4 128) (Begin 0 5 ∷ Begin 2 0 ∷ Write 0 3 7 ∷ Write 0 3 8 ∷ Read 0 3 ∷ Read 0 4 ∷ Write 2 4 9 ∷ Seal 2 ∷ Install 2 ∷ Check 2 ∷ Commit 2 ∷ Read 0 4 ∷ Read 0 5 ∷ Seal 0 ∷ []) ≡ ok 1280 ∷ ok 514 ∷ ok 1 ∷ ok 1 ∷ ok 8 ∷ ok 0 ∷ ok 1 ∷ ok 2 ∷ ok 1 ∷ ok 0 ∷ ok 514 ∷ ok 0 ∷ ok 0 ∷ ok 6 ∷ []

-- a pass with empty sets commits at once and counts
abbrev pub EmptyPass : Type 0
EmptyPass = answers (new_map 4 128) (Begin 0 5 ∷ Commit 0 ∷ Seal 0 ∷ Install 0 ∷ Commit 0 ∷ Commits ∷ []) ≡ ok 1280 ∷ no' 3 0 ∷ ok 0 ∷ no' 3 0 ∷ ok 1280 ∷ ok 1 ∷ []

-- a look reads below its floor, not at it
abbrev pub LookBelow : Type 0
LookBelow = answers (new_map 2 128) (Begin 0 5 ∷ Write 0 3 7 ∷ Seal 0 ∷ Install 0 ∷ Check 0 ∷ Commit 0 ∷ Pulse 1 9 ∷ Look 1 ∷ Read 1 3 ∷ Close 1 ∷ Pulse 0 1 ∷ Look 1 ∷ Read 1 3 ∷ Write 1 3 1 ∷ Seal 1 ∷ Abort 1 ∷ []) ≡ ok 1280 ∷ ok 1 ∷ ok 2 ∷ ok 1 ∷ ok 0 ∷ ok 1280 ∷ ok 2305 ∷ ok 1280 ∷ ok 0 ∷ ok 0 ∷ ok 1536 ∷ ok 1536 ∷ ok 7 ∷ no' 3 0 ∷ no' 3 0 ∷ no' 3 0 ∷ []

-- an open look keeps what it may read from collection
abbrev pub LookKeeps : Type 0
LookKeeps = answers (new_map 2 128) (Pulse 1 9 ∷ Look 1 ∷ Begin 0 5 ∷ Write 0 3 7 ∷ Seal 0 ∷ Install 0 ∷ Check 0 ∷ Commit 0 ∷ Begin 0 5 ∷ Write 0 3 8 ∷ Seal 0 ∷ Install 0 ∷ Check 0 ∷ Commit 0 ∷ Collect 3 ∷ Read 1 3 ∷ Close 1 ∷ Collect 3 ∷ []) ≡ ok 2305 ∷ ok 256 ∷ ok 1280 ∷ ok 1 ∷ ok 2 ∷ ok 1 ∷ ok 0 ∷ ok 1280 ∷ ok 2560 ∷ ok 1 ∷ ok 2 ∷ ok 1 ∷ ok 0 ∷ ok 2560 ∷ ok 0 ∷ ok 0 ∷ ok 0 ∷ ok 1 ∷ []

-- pulse needs an idle worker
abbrev pub PulseInTurn : Type 0
PulseInTurn = answers (new_map 4 128) (Look 0 ∷ Pulse 0 5 ∷ Begin 0 5 ∷ Look 0 ∷ Close 0 ∷ Close 0 ∷ Pulse 0 5 ∷ Begin 0 1 ∷ Pulse 0 5 ∷ []) ≡ ok 256 ∷ no' 3 0 ∷ no' 3 0 ∷ no' 3 0 ∷ ok 0 ∷ no' 3 0 ∷ ok 1280 ∷ ok 1536 ∷ no' 3 0 ∷ []

-- a worker takes over a later clock, in any stage, and may name itself
abbrev pub Syncs : Type 0
Syncs = answers (new_map 4 128) (Begin 1 9 ∷ Sync 0 1 ∷ Begin 0 1 ∷ Sync 1 0 ∷ Sync 0 0 ∷ Sync 0 4 ∷ Sync 4 0 ∷ []) ≡ ok 2305 ∷ ok 9 ∷ ok 2560 ∷ ok 10 ∷ ok 10 ∷ no' 1 0 ∷ no' 1 0 ∷ []

-- fewer than one worker counts as one
abbrev pub FewWorkers : Type 0
FewWorkers = answers (new_map 0 128) (Begin 0 5 ∷ Begin 1 5 ∷ []) ≡ ok 1280 ∷ no' 1 0 ∷ []

-- more than sixteen workers count as sixteen
abbrev pub ManyWorkers : Type 0
ManyWorkers = answers (new_map 20 128) (Begin 15 5 ∷ Begin 16 5 ∷ []) ≡ ok 1295 ∷ no' 1 0 ∷ []

-- each set takes sixteen entries; a known cell needs none
abbrev pub FullSets : Type 0
FullSets = answers (new_map 4 128) (Begin 0 5 ∷ Write 0 0 100 ∷ Write 0 1 101 ∷ Write 0 2 102 ∷ Write 0 3 103 ∷ Write 0 4 104 ∷ Write 0 5 105 ∷ Write 0 6 106 ∷ Write 0 7 107 ∷ Write 0 8 108 ∷ Write 0 9 109 ∷ Write 0 10 110 ∷ Write 0 11 111 ∷ Write 0 12 112 ∷ Write 0 13 113 ∷ Write 0 14 114 ∷ Write 0 15 115 ∷ Write 0 16 1 ∷ Write 0 0 99 ∷ Read 0 16 ∷ Read 0 17 ∷ Read 0 18 ∷ Read 0 19 ∷ Read 0 20 ∷ Read 0 21 ∷ Read 0 22 ∷ Read 0 23 ∷ Read 0 24 ∷ Read 0 25 ∷ Read 0 26 ∷ Read 0 27 ∷ Read 0 28 ∷ Read 0 29 ∷ Read 0 30 ∷ Read 0 31 ∷ Read 0 32 ∷ Read 0 0 ∷ Read 0 31 ∷ Seal 0 ∷ []) ≡ ok 1280 ∷ ok 1 ∷ ok 2 ∷ ok 3 ∷ ok 4 ∷ ok 5 ∷ ok 6 ∷ ok 7 ∷ ok 8 ∷ ok 9 ∷ ok 10 ∷ ok 11 ∷ ok 12 ∷ ok 13 ∷ ok 14 ∷ ok 15 ∷ ok 16 ∷ no' 4 0 ∷ ok 16 ∷ ok 0 ∷ ok 0 ∷ ok 0 ∷ ok 0 ∷ ok 0 ∷ ok 0 ∷ ok 0 ∷ ok 0 ∷ ok 0 ∷ ok 0 ∷ ok 0 ∷ ok 0 ∷ ok 0 ∷ ok 0 ∷ ok 0 ∷ ok 0 ∷ no' 4 0 ∷ ok 99 ∷ ok 0 ∷ ok 64 ∷ []

-- aborted versions take places; a pass that finds none may try again
abbrev pub NoPlace : Type 0
NoPlace = answers (new_map 4 128) (Begin 0 1 ∷ Write 0 3 1 ∷ Seal 0 ∷ Install 0 ∷ Abort 0 ∷ Begin 0 1 ∷ Write 0 3 1 ∷ Seal 0 ∷ Install 0 ∷ Abort 0 ∷ Begin 0 1 ∷ Write 0 3 1 ∷ Seal 0 ∷ Install 0 ∷ Abort 0 ∷ Begin 0 1 ∷ Write 0 3 1 ∷ Seal 0 ∷ Install 0 ∷ Abort 0 ∷ Begin 0 1 ∷ Write 0 3 1 ∷ Seal 0 ∷ Install 0 ∷ Abort 0 ∷ Begin 0 1 ∷ Write 0 3 1 ∷ Seal 0 ∷ Install 0 ∷ Abort 0 ∷ Begin 0 1 ∷ Write 0 3 1 ∷ Seal 0 ∷ Install 0 ∷ Abort 0 ∷ Begin 0 1 ∷ Write 0 3 1 ∷ Seal 0 ∷ Install 0 ∷ Install 0 ∷ Abort 0 ∷ []) ≡ ok 512 ∷ ok 1 ∷ ok 2 ∷ ok 1 ∷ ok 1 ∷ ok 3072 ∷ ok 1 ∷ ok 2 ∷ ok 1 ∷ ok 1 ∷ ok 3328 ∷ ok 1 ∷ ok 2 ∷ ok 1 ∷ ok 1 ∷ ok 3584 ∷ ok 1 ∷ ok 2 ∷ ok 1 ∷ ok 1 ∷ ok 3840 ∷ ok 1 ∷ ok 2 ∷ ok 1 ∷ ok 1 ∷ ok 4096 ∷ ok 1 ∷ ok 2 ∷ ok 1 ∷ ok 1 ∷ ok 4352 ∷ ok 1 ∷ ok 2 ∷ ok 1 ∷ ok 1 ∷ ok 4608 ∷ ok 1 ∷ ok 2 ∷ no' 8 0 ∷ no' 8 0 ∷ ok 0 ∷ []

-- the adjusted clock ends at 2^50 - 1; a refused begin adds nothing
abbrev pub ClockSpent : Type 0
ClockSpent = answers (late_map) (Begin 0 1 ∷ Abort 0 ∷ Begin 0 1 ∷ Pulse 0 5 ∷ Begin 1 1 ∷ []) ≡ ok 288230376151711488 ∷ ok 0 ∷ no' 5 0 ∷ no' 5 0 ∷ ok 513 ∷ []

-- the rules are total: on models that no run reaches they pass on what the table answers
abbrev pub Total : Type 0
Total = answers (odd_map) (Begin 0 5 ∷ Write 0 3 1 ∷ Seal 0 ∷ Install 0 ∷ Show 4 ∷ Collect 4 ∷ []) ≡ ok 1280 ∷ ok 1 ∷ ok 2 ∷ no' 7 0 ∷ no' 9 0 ∷ no' 9 0 ∷ []

-- all of them
abbrev pub CasesStand : Type 0
CasesStand = LaterFirst × FewestUnits × MostUnits × Boosted × ReadLater × Changed × Waits × Collects × AllStampsFirst × ReadsBeforeWrites × WriteWaits × CellBeforeTurn × OwnWrite × EmptyPass × LookBelow × LookKeeps × PulseInTurn × Syncs × FewWorkers × ManyWorkers × FullSets × NoPlace × ClockSpent × Total
