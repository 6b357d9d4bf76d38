-- The table under a map has the lists of its model, whatever calls are made.
use Rattle.std.proofs.Common.{◌≡◌, ℕ, min, List, length, take, sym, refl, ap, ◌∙◌, subst}
use Rattle.words.specs.Outcome.{Outcome, accepted}
use Rattle.words.specs.declared.status.Ending.{Ending}
use Rattle.words.specs.declared.status.Ending.TheVariants.{Commit as Commits', Abort as Aborts'}
use Rattle.words.specs.declared.version.Version.{Version}
use Rattle.words.specs.Version.{new_version}
use Rattle.tables.specs.Versions.{with_version, at_stamp, raised, kept}
use Rattle.tables.specs.Table.{Table, put, Only, Inserted, Altered, Cut, insert_answer, raise_answer, cut_answer}
use Rattle.tables.specs.declared.call.TableCall.{TableCall}
use Rattle.tables.specs.Calls.{Upon}
use Rattle.rules.specs.declared.entry.ReadEntry.{ReadEntry}
use Rattle.rules.specs.declared.entry.WriteEntry.{WriteEntry}
use Rattle.rules.specs.declared.call.Call.{Call}
use Rattle.rules.specs.Model.{Stage, open', sealed, Model, table_of, with_list}
use Rattle.rules.specs.Stamps.{last_stamp}
use Rattle.rules.specs.Rules.{Step, to_install, to_stamp, next_step, ended_all, outcome}
use Rattle.rules.proofs.Marked.{all_marked}
use Rattle.rules.proofs.Ways.{every_way}
use Rattle.rules.specs.Beneath.{marks, for_step, calls_if_sealed, cut_at, Steps, Beneath}

-- a table with the cells and the lists of a model
pub record Tied (t : Table) (m : Model) : Type 0 where
  pub cells : t.cells ≡ m.cells
  pub versions : t.versions ≡ m.lists

pub tied_path : (t : Table) (m : Model) → Tied t m → t ≡ table_of t.free m
tied_path t m tied = λ i. record { cells = tied.cells i; versions = tied.versions i; free = t.free }

module _ (t : Table) (m : Model) (tied : Tied t m) where
  -- nothing is called, and the lists stay
  untouched : (m' : Model) → m'.cells ≡ m.cells → m'.lists ≡ m.lists → (u : Table) → u ≡ t → Tied u m'
  untouched m' cells lists u e = record { cells = ap (λ (z : Table). z.cells) e ∙ tied.cells ∙ sym cells; versions = ap (λ (z : Table). z.versions) e ∙ tied.versions ∙ sym lists }

  -- one accepted call, which changes one list
  changes : (answer : Table → Outcome ℕ) (n : ℕ) (P : Table → Type 0) (c : ℕ) (f : List Version → List Version) → answer (table_of t.free m) ≡ accepted n → ((s : Table) → P s → Only t s c (f (t.versions c)))
      → (u : Table) → (s : Table) × Upon (answer t) (P s) (s ≡ t) × (u ≡ s) → Tied u (with_list m c (f (m.lists c)))
  changes answer n P c f ok only u (s, step, e) =
      let o = only s (subst (λ o. Upon o (P s) (s ≡ t)) (ap answer (tied_path t m tied) ∙ ok) step) in
      subst (λ (z : Table). Tied z (with_list m c (f (m.lists c)))) (sym e) (record { cells = o.cells ∙ tied.cells; versions = o.versions ∙ ap (λ (ls : ℕ → List Version). put ls c (f (ls c))) tied.versions })

  -- the calls of a worker in a known stage, and of a known step
  calls_in : (w : ℕ) (g : Stage) → (m.worker w).stage ≡ g → (f : List ReadEntry → List WriteEntry → ℕ → List TableCall) (u : Table) → Steps t (calls_if_sealed (m.worker w).stage f) u → Steps t (calls_if_sealed g f) u
  calls_in w g was f u h = subst (λ g. Steps t (calls_if_sealed g f) u) was h

  step_is : (w : ℕ) (rs : List ReadEntry) (ws : List WriteEntry) (k : ℕ) → (m.worker w).stage ≡ sealed rs ws k → (step : Step) → next_step rs ws k ≡ step → (u : Table)
      → Steps t (calls_if_sealed (m.worker w).stage (λ rs ws k. for_step (last_stamp m w) (next_step rs ws k))) u → Steps t (for_step (last_stamp m w) step) u
  step_is w rs ws k was step is u h = subst (λ step. Steps t (for_step (last_stamp m w) step) u) is (calls_in w (sealed rs ws k) was (λ rs ws k. for_step (last_stamp m w) (next_step rs ws k)) u h)

  ending : (how : Ending) (w : ℕ) (vs : List WriteEntry) (u : Table) → Steps t (marks how (last_stamp m w) vs) u → (u.cells ≡ m.cells) × (u.versions ≡ ended_all how m.cells (last_stamp m w) m.lists vs)
  ending how w vs u h = let r = all_marked how (last_stamp m w) vs t u h in (r.0 ∙ tied.cells, r.1 ∙ (λ i. ended_all how (tied.cells i) (last_stamp m w) (tied.versions i) vs))

  pub call_tied : (call : Call) (u : Table) → Beneath t m call (outcome t.free m call).0 u → Tied u (outcome t.free m call).1
  call_tied = every_way t.free m (λ call done. (u : Table) → Beneath t m call done.0 u → Tied u done.1) (λ call n d why. untouched m refl refl) (record {
    begins = λ w units _ _ _. untouched _ refl refl;
    pulses = λ w units _ _ _. untouched _ refl refl;
    syncs = λ w o _ _. untouched _ refl refl;
    reads_own = λ w c rs ws e _ _ _. untouched m refl refl;
    reads_known = λ w c rs ws e _ _ _ _. untouched m refl refl;
    reads_new = λ w c rs ws v _ _ _ _. untouched _ refl refl;
    reads_look = λ w c f v _ _ _. untouched m refl refl;
    adds = λ w c x rs ws _ _ _. untouched _ refl refl;
    replaces = λ w c x rs ws old _ _ _. untouched _ refl refl;
    seals = λ w rs ws _ _. untouched _ refl refl;
    installs = λ w rs ws k e n _ was is ok u h.
        let r = changes (λ z. insert_answer z e.cell (last_stamp m w)) n (λ s. Inserted t s e.cell (last_stamp m w) e.value) e.cell (with_version (new_version (last_stamp m w) e.value)) ok (λ s p. p.only) u (step_is w rs ws k was (to_install e) is u h) in
        record { cells = r.cells; versions = r.versions };
    stamps = λ w rs ws k e n _ was is ok u h.
        let r = changes (λ z. raise_answer z e.cell e.stamp) n (λ s. Altered t s e.cell e.stamp (raised (last_stamp m w))) e.cell (at_stamp e.stamp (raised (last_stamp m w))) ok (λ s p. p.only) u (step_is w rs ws k was (to_stamp e) is u h) in
        record { cells = r.cells; versions = r.versions };
    checks_read = λ w rs ws k e v _ _ _ _ _. untouched _ refl refl;
    checks_write = λ w rs ws k e v _ _ _ _ _. untouched _ refl refl;
    commits = λ w rs ws k _ was _ u h. let r = ending Commits' w ws u (calls_in w (sealed rs ws k) was (λ rs ws k. marks Commits' (last_stamp m w) ws) u h) in record { cells = r.0; versions = r.1 };
    aborts_open = λ w rs ws _ was u h. untouched _ refl refl u (calls_in w (open' rs ws) was (λ rs ws k. marks Aborts' (last_stamp m w) (take (min k (length ws)) ws)) u h);
    aborts_sealed = λ w rs ws k _ was u h.
        let r = ending Aborts' w (take (min k (length ws)) ws) u (calls_in w (sealed rs ws k) was (λ rs ws k. marks Aborts' (last_stamp m w) (take (min k (length ws)) ws)) u h) in
        record { cells = r.0; versions = r.1 };
    looks = λ w _ _. untouched _ refl refl;
    closes = λ w f _ _. untouched _ refl refl;
    shows = λ c v _. untouched m refl refl;
    counts = untouched m refl refl;
    collects = λ c v n is ok u h. changes (λ z. cut_answer z c v.write) n (λ s. Cut t s c v.write) c (kept v.write) ok (λ s p. p.only) u (subst (λ o. Steps t (cut_at c o) u) is h);
  })
