-- What a search looks for, as the rules say it, and what one version is to it.
use Rattle.std.specs.Prelude.{ℕ, cond, List, drop, Ok, Err, Result, Some, None, Option, nat_lt}
use Rattle.words.specs.Outcome.{Outcome, accepted, refuse}
use Rattle.words.specs.declared.refusal.Refusal.{Refusal}
use Rattle.words.specs.declared.refusal.Refusal.TheVariants.{Wait}
use Rattle.words.specs.declared.version.Version.{Version}
use Rattle.tables.specs.Table.{Table, in_cell}
use Rattle.rules.specs.Search.{reach, by_status, visible, newest, newest_below}
use Rattle.searches.specs.declared.sought.Sought.{Sought}
use Rattle.searches.specs.declared.sought.Sought.TheVariants.{Visible, Newest, NewestBelow}

abbrev pub looks_for : Sought → List Version → Outcome Version
looks_for (Visible s) = visible s
looks_for Newest = newest
looks_for (NewestBelow s) = newest_below s

-- a version that is found, one that is waited for, and one that is passed over
abbrev pub judged : Sought → Version → Result (Option Version) Refusal
judged (Visible s) v =
    cond (nat_lt v.write s) (by_status v.status (Err (Wait v.write)) (Ok (Some v)) (Ok None)) (Ok None)
judged Newest v = by_status v.status (Ok None) (Ok (Some v)) (Ok None)
judged (NewestBelow s) v = cond (nat_lt v.write s) (by_status v.status (Ok None) (Ok (Some v)) (Ok None)) (Ok None)

-- what a search comes to from the position i on
abbrev pub left : Table → ℕ → Sought → ℕ → Outcome Version
left t c s i = in_cell t c (looks_for s (drop i (reach (t.versions c))))

-- what a version makes of a search: found, refused, or what is left
abbrev pub turned : Result (Option Version) Refusal → Outcome Version → Outcome Version
turned (Ok (Some v)) rest = accepted v
turned (Ok None) rest = rest
turned (Err e) rest = refuse e
