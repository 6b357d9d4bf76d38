-- Clocks and timestamps.
use Rattle.std.specs.Prelude.{ℕ, zero, suc, ◌+◌, ◌-◌, ◌*◌, ◌^◌, min, max}
use Rattle.rules.specs.Model.{Worker, Stage, idle, open', sealed, looking, Model}

-- elapsed units count as at least 1 and at most 36,000,000,000, which is an hour
abbrev pub elapsed : ℕ → ℕ
elapsed units = max 1 (min units 36000000000)

-- the largest adjusted clock
abbrev pub last_clock : ℕ
last_clock = 2 ^ 50 - 1

-- the adjusted clock after so many units
abbrev pub adjusted : Worker → ℕ → ℕ
adjusted x units = max (x.clock + elapsed units + x.boost) (x.last + 1)

-- a worker whose clock has gone on, in the stage g
abbrev pub ticked : Worker → ℕ → Stage → Worker
ticked x units g = record { clock = x.clock + elapsed units; boost = x.boost; last = adjusted x units; stage = g }

-- the timestamp of an adjusted clock of worker w
abbrev pub timestamp : ℕ → ℕ → ℕ
timestamp clock w = clock * 256 + w

-- the last timestamp of worker w, which is that of the pass it runs
abbrev pub last_stamp : Model → ℕ → ℕ
last_stamp m w = timestamp (m.worker w).last w

-- the least of f 0 .. f n
abbrev pub least : (ℕ → ℕ) → ℕ → ℕ
least f zero = f 0
least f (suc n) = min (least f n) (f (suc n))

-- the floor: the least last timestamp over all workers of the map
abbrev pub floor : Model → ℕ
floor m = least (last_stamp m) (m.workers - 1)

-- the floor of a worker's look, or n where it is not looking
abbrev pub look_floor : Stage → ℕ → ℕ
look_floor idle n = n
look_floor (open' rs ws) n = n
look_floor (sealed rs ws k) n = n
look_floor (looking f) n = f

-- the keep line: the least of the floor and the floors of open looks
abbrev pub keep_line : Model → ℕ
keep_line m = min (floor m) (least (λ w. look_floor (m.worker w).stage (floor m)) (m.workers - 1))
