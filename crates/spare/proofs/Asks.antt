-- A raise to 0 is a question: it is accepted if the stamp is there, and changes nothing.
use Rattle.std.proofs.Common.{◌≡◌, ℕ, List, [], ◌∷◌, Ok, Err, Result, refl, ap, ◌∙◌, arith, MatchResult}
use mathlib.Core.Path.{fun_ext}
use Rattle.std.proofs.lemmas.Bool.Decides.{nat_tests}
use Rattle.words.specs.declared.refusal.Refusal.{Refusal}
use Rattle.words.specs.declared.version.Version.{Version}
use Rattle.tables.specs.Versions.{at_stamp, raised}
use Rattle.tables.specs.Table.{Table, Altered, put}
use Rattle.tables.proofs.Lengths.{put_same}

raised_to_0 : (v : Version) → raised 0 v ≡ v
raised_to_0 v = grind arith

list_unchanged : (s : ℕ) (vs : List Version) → at_stamp s (raised 0) vs ≡ vs
list_unchanged s [] = refl
list_unchanged s (v ∷ vs) = grind (arith, nat_tests, raised_to_0 v, list_unchanged s vs)

asked : (t u : Table) (c s : ℕ) → Altered t u c s (raised 0) → u ≡ t
asked t u c s h =
    let versions = h.only.versions ∙ ap (put t.versions c) (list_unchanged s (t.versions c)) ∙ put_same t.versions c in
    let free = fun_ext h.free in
    grind arith

pub raise_asks : (t u : Table) (c s : ℕ) (r : Result ℕ Refusal) → MatchResult r (λ _. Altered t u c s (raised 0)) (λ _. u ≡ t) → u ≡ t
raise_asks t u c s (Ok a) h = asked t u c s h
raise_asks t u c s (Err e) h = h
