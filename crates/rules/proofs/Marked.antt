-- What the marks of a pass make of a table: the lists that the rules say.
use Rattle.std.proofs.Common.{◌≡◌, ℕ, List, [], ◌∷◌, ap, ◌∙◌}
use Rattle.words.specs.Outcome.{Outcome, accepted, refused}
use Rattle.words.specs.declared.status.Ending.{Ending}
use Rattle.tables.specs.Versions.{at_stamp, marked}
use Rattle.tables.specs.Table.{Table, put, Altered, mark_answer}
use Rattle.tables.specs.declared.call.TableCall.TheVariants.{Mark}
use Rattle.tables.specs.Calls.{Upon, Step as TableStep}
use Rattle.rules.specs.declared.entry.WriteEntry.{WriteEntry}
use Rattle.rules.specs.Rules.{if_accepted, ended_one, ended_all}
use Rattle.rules.specs.Beneath.{marks, Steps}

one_marked : (how : Ending) (s : ℕ) (e : WriteEntry) (t u : Table) → TableStep t (Mark e.cell s how) u → (u.cells ≡ t.cells) × (u.versions ≡ ended_one how t.cells s t.versions e)
one_marked how s e t u step = by (mark_answer t e.cell s) step
  where
    by : (o : Outcome ℕ) → Upon o (Altered t u e.cell s (marked how)) (u ≡ t) → (u.cells ≡ t.cells) × (u.versions ≡ if_accepted o (put t.versions e.cell (at_stamp s (marked how) (t.versions e.cell))) t.versions)
    by (accepted n) h = (h.only.cells, h.only.versions)
    by (refused n d) h = (ap (λ (z : Table). z.cells) h, ap (λ (z : Table). z.versions) h)

pub all_marked : (how : Ending) (s : ℕ) (ws : List WriteEntry) (t u : Table) → Steps t (marks how s ws) u → (u.cells ≡ t.cells) × (u.versions ≡ ended_all how t.cells s t.versions ws)
all_marked how s [] t u h = (ap (λ (z : Table). z.cells) h, ap (λ (z : Table). z.versions) h)
all_marked how s (e ∷ es) t u (v, step, rest) =
    let one = one_marked how s e t v step in
    let then' = all_marked how s es v u rest in
    (then'.0 ∙ one.0, then'.1 ∙ (λ i. ended_all how (one.0 i) s (one.1 i) es))
