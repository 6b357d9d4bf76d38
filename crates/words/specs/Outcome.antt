-- What a call comes to: accepted with an answer, or refused with a number and a detail.
-- Every promise about an answer is an equation between outcomes.
use Rattle.std.specs.Prelude.{ℕ, Ok, Err, Result}
use Rattle.words.specs.declared.refusal.Refusal.{Refusal}
use Rattle.words.specs.Refusal.{number, detail}

pub data Outcome (A : Type 0) : Type 0 where
  accepted : A → Outcome A
  refused : ℕ → ℕ → Outcome A

-- the outcome of a refusal
abbrev pub refuse : {A : Type 0} → Refusal → Outcome A
refuse e = refused (number e) (detail e)

-- the outcome that a result tells
abbrev pub told : {A : Type 0} → Result A Refusal → Outcome A
told (Ok a) = accepted a
told (Err e) = refuse e
