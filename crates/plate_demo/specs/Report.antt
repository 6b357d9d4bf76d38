-- What a call came to, as it is shown.
use Rattle.std.specs.Prelude.{ℕ, List, ◌++◌, Ok, Err, Result, codes, decimal}
use Rattle.words.specs.Refusal.{number, detail, name}
use Rattle.words.specs.declared.refusal.Refusal.{Refusal}
use Rattle.tables.specs.declared.call.Answer.{Answer}
use Rattle.tables.specs.Shown.{answer_shown}

-- ok and the answer, or no and the refusal's number, detail and name
abbrev pub told_shown : Result Answer Refusal → List ℕ
told_shown (Ok a) = codes "ok " ++ answer_shown a
told_shown (Err e) = codes "no " ++ decimal (number e) ++ codes " " ++ decimal (detail e) ++ codes " " ++ name e
