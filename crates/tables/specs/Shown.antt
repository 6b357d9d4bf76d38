-- A call of a table and its answer, as they are shown.
use Rattle.std.specs.Prelude.{ℕ, List, ◌++◌, codes, decimal}
use Rattle.words.specs.Status.{name, ended}
use Rattle.words.specs.Version.{shown}
use Rattle.tables.specs.declared.call.TableCall.{TableCall}
use Rattle.tables.specs.declared.call.TableCall.TheVariants.{Clear, Cells, FreePlaces, Length, Version as VersionAt, Insert, Raise, Mark, Cut as CutAt}
use Rattle.tables.specs.declared.call.Answer.{Answer}
use Rattle.tables.specs.declared.call.Answer.TheVariants.{Number, Version as TheVersion}

-- a call in words
abbrev pub call_shown : TableCall → List ℕ
call_shown Clear = codes "clear"
call_shown Cells = codes "cells"
call_shown (FreePlaces c) = codes "free places of cell " ++ decimal c
call_shown (Length c) = codes "length of cell " ++ decimal c
call_shown (VersionAt c i) = codes "version of cell " ++ decimal c ++ codes " at " ++ decimal i
call_shown (Insert c s x) = codes "insert in cell " ++ decimal c ++ codes ", stamp " ++ decimal s ++ codes ", value " ++ decimal x
call_shown (Raise c s r) = codes "raise in cell " ++ decimal c ++ codes ", stamp " ++ decimal s ++ codes ", to " ++ decimal r
call_shown (Mark c s e) = codes "mark in cell " ++ decimal c ++ codes ", stamp " ++ decimal s ++ codes ", " ++ name (ended e)
call_shown (CutAt c s) = codes "cut of cell " ++ decimal c ++ codes " at " ++ decimal s

-- an answer: a number, or a version
abbrev pub answer_shown : Answer → List ℕ
answer_shown (Number n) = decimal n
answer_shown (TheVersion v) = shown v
