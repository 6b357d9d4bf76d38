-- The next step of a sealed pass, by how many are done, and what a step comes to.
use Rattle.std.proofs.Common.{◌≡◌, ℕ, ◌+◌, ◌-◌, ◌*◌, ◌<◌, ◌≤◌, cond, eqb, ltb, Bool, true, false, List, length, get_or, Some, sym, refl, ap, ◌∙◌, subst, arith, le-ltb, lt-ltb}
use Rattle.std.proofs.lemmas.Bool.Decides.{nat_tests}
use Rattle.words.specs.Outcome.{Outcome, accepted, refused, refuse}
use Rattle.words.specs.Version.{new_version}
use Rattle.words.specs.declared.refusal.Refusal.{Refusal}
use Rattle.words.specs.declared.refusal.Refusal.TheVariants.{Changed, ReadLater}
use Rattle.words.specs.declared.version.Version.{Version}
use Rattle.tables.specs.Versions.{with_version, at_stamp, raised}
use Rattle.tables.specs.Table.{Table, put, Inserted, Altered, insert_answer, raise_answer}
use Rattle.tables.specs.Calls.{Upon}
use Rattle.rules.specs.declared.entry.ReadEntry.{ReadEntry}
use Rattle.rules.specs.declared.entry.WriteEntry.{WriteEntry}
use Rattle.rules.specs.Model.{sealed, Worker, at_stage}
use Rattle.rules.specs.Search.{visible, search}
use Rattle.rules.specs.Rules.{accept, deny, upon, gone, to_install, to_stamp, to_check_read, to_check_write, step_write, step_read, steps, next_step}
use Rattle.rules.specs.Turns.{Came, pass_stamp, steps_left, one_on, install_by, stamp_by, check_by, install_step_by, stamp_step_by, check_step_by}
use Rattle.rules.specs.Beneath.{for_step, step_calls, Steps}
use Rattle.workers.specs.Shape.{read_checked, write_checked, step_by}
use Rattle.workers.specs.declared.steps.Step.TheVariants.{Check}
use Rattle.searches.proofs.Places.{nth_at}

-- what is accepted was not gone
not_gone : (a : ℕ) (o : Outcome ℕ) → accepted a ≡ gone o → accepted a ≡ o
not_gone a (accepted n) h = h
not_gone a (refused n d) h = absurd (clash (eqb n 9) h)
  where
    clash : (b : Bool) → accepted a ≡ cond b (refuse Changed) (refused n d) → ⊥
    clash true q = let z : ◌≡◌ {A = ℕ} 0 1 = cc in omega arith
    clash false q = let z : ◌≡◌ {A = ℕ} 0 1 = cc in omega arith

module _ (t : Table) (w : ℕ) (x : Worker) (rs : List ReadEntry) (ws : List WriteEntry) (k : ℕ) where
  abbrev pass : Worker
  pass = at_stage x (sealed rs ws k)

  abbrev stamp : ℕ
  stamp = pass_stamp x w

  -- one step more
  abbrev on : {A : Type 0} → A → Came A
  on a = accept (steps_left rs ws k) a

  module _ (e : WriteEntry) (h : k < length ws) (is : e ≡ get_or ws k e) where
    next_install : next_step rs ws k ≡ to_install e
    next_install = rw (lt-ltb k (length ws) h) (ap (step_write to_install) (nth_at ws k e h ∙ ap Some (sym is)))

    install_is : install_by t w pass ≡ upon (insert_answer t e.cell stamp) (pass, t.versions) (λ _. on (one_on x rs ws k, put t.versions e.cell (with_version (new_version stamp e.value) (t.versions e.cell))))
    install_is = ap (λ s. install_step_by s t w rs ws k pass) next_install

    pub not_installed : (u : Table) (r : Refusal) → refuse r ≡ insert_answer t e.cell stamp → u ≡ t → (refuse r, (pass, u.versions)) ≡ install_by t w pass
    not_installed u r no' same = rw (install_is, ← no', same) refl

    pub installed : (u : Table) (a : ℕ) → accepted a ≡ insert_answer t e.cell stamp → Inserted t u e.cell stamp e.value → on (one_on x rs ws k, u.versions) ≡ install_by t w pass
    installed u a ok made = rw (install_is, ← ok, made.only.versions) refl

    pub install_calls : (u : Table) (a : ℕ) → accepted a ≡ insert_answer t e.cell stamp → Inserted t u e.cell stamp e.value → Steps t (step_calls w pass) u
    install_calls u a ok made = subst (λ calls. Steps t calls u) (sym (ap (for_step stamp) next_install)) (u, subst (λ o. Upon o (Inserted t u e.cell stamp e.value) (u ≡ t)) ok made, refl)

  module _ (e : ReadEntry) (le : length ws ≤ k) (h : k < length ws + length rs) (is : e ≡ get_or rs (k - length ws) e) where
    next_stamp : next_step rs ws k ≡ to_stamp e
    next_stamp = rw (le-ltb k (length ws) le, lt-ltb k (length ws + length rs) h) (ap (step_read to_stamp) (nth_at rs (k - length ws) e (omega arith) ∙ ap Some (sym is)))

    stamp_is : stamp_by t w pass ≡ upon (gone (raise_answer t e.cell e.stamp)) (pass, t.versions) (λ _. on (one_on x rs ws k, put t.versions e.cell (at_stamp e.stamp (raised stamp) (t.versions e.cell))))
    stamp_is = ap (λ s. stamp_step_by s t w rs ws k pass) next_stamp

    pub not_stamped : (u : Table) (r : Refusal) → refuse r ≡ gone (raise_answer t e.cell e.stamp) → u ≡ t → (refuse r, (pass, u.versions)) ≡ stamp_by t w pass
    not_stamped u r no' same = rw (stamp_is, ← no', same) refl

    pub stamped : (u : Table) (a : ℕ) → accepted a ≡ gone (raise_answer t e.cell e.stamp) → Altered t u e.cell e.stamp (raised stamp) → on (one_on x rs ws k, u.versions) ≡ stamp_by t w pass
    stamped u a ok made = rw (stamp_is, ← ok, made.only.versions) refl

    pub stamp_calls : (u : Table) (a : ℕ) → accepted a ≡ gone (raise_answer t e.cell e.stamp) → Altered t u e.cell e.stamp (raised stamp) → Steps t (step_calls w pass) u
    stamp_calls u a ok made = subst (λ calls. Steps t calls u) (sym (ap (for_step stamp) next_stamp)) (u, subst (λ o. Upon o (Altered t u e.cell e.stamp (raised stamp)) (u ≡ t)) (not_gone a _ ok) made, refl)

  module _ (e : ReadEntry) (le : length ws + length rs ≤ k) (h : k < length ws + 2 * length rs) (is : e ≡ get_or rs (k - (length ws + length rs)) e) where
    check_read_is : check_by t w pass ≡ upon (read_checked e (search (visible stamp) t e.cell)) pass (λ _. on (one_on x rs ws k))
    check_read_is = ap (λ s. check_step_by s t w rs ws k pass) next ∙ by (search (visible stamp) t e.cell)
      where
        next : next_step rs ws k ≡ to_check_read e
        next = rw (le-ltb k (length ws) (omega arith), le-ltb k (length ws + length rs) le, lt-ltb k (length ws + 2 * length rs) h)
            (ap (step_read to_check_read) (nth_at rs (k - (length ws + length rs)) e (omega arith) ∙ ap Some (sym is)))

        by : (o : Outcome Version) → upon o pass (λ v. cond (eqb v.write e.stamp) (on (one_on x rs ws k)) (deny Changed pass)) ≡ upon (read_checked e o) pass (λ _. on (one_on x rs ws k))
        by (accepted v) = grind (arith, nat_tests)
        by (refused n d) = refl

    pub read_kept : accepted (tt {0}) ≡ read_checked e (search (visible stamp) t e.cell) → on (one_on x rs ws k, t.versions) ≡ step_by Check t w pass
    read_kept ok = rw (check_read_is, ← ok) refl

    pub read_lost : (r : Refusal) → refuse r ≡ read_checked e (search (visible stamp) t e.cell) → (refuse r, (pass, t.versions)) ≡ step_by Check t w pass
    read_lost r no' = rw (check_read_is, ← no') refl

  module _ (e : WriteEntry) (le : length ws + 2 * length rs ≤ k) (h : k < steps rs ws) (is : e ≡ get_or ws (k - (length ws + 2 * length rs)) e) where
    check_write_is : check_by t w pass ≡ upon (write_checked stamp (search (visible stamp) t e.cell)) pass (λ _. on (one_on x rs ws k))
    check_write_is = ap (λ s. check_step_by s t w rs ws k pass) next ∙ by (search (visible stamp) t e.cell)
      where
        next : next_step rs ws k ≡ to_check_write e
        next = rw (le-ltb k (length ws) (omega arith), le-ltb k (length ws + length rs) (omega arith), le-ltb k (length ws + 2 * length rs) le, lt-ltb k (steps rs ws) h)
            (ap (step_write to_check_write) (nth_at ws (k - (length ws + 2 * length rs)) e (omega arith) ∙ ap Some (sym is)))

        by : (o : Outcome Version) → upon o pass (λ v. cond (ltb stamp v.read) (deny ReadLater pass) (on (one_on x rs ws k))) ≡ upon (write_checked stamp o) pass (λ _. on (one_on x rs ws k))
        by (accepted v) = grind (arith, nat_tests)
        by (refused n d) = refl

    pub write_kept : accepted (tt {0}) ≡ write_checked stamp (search (visible stamp) t e.cell) → on (one_on x rs ws k, t.versions) ≡ step_by Check t w pass
    write_kept ok = rw (check_write_is, ← ok) refl

    pub write_late : (r : Refusal) → refuse r ≡ write_checked stamp (search (visible stamp) t e.cell) → (refuse r, (pass, t.versions)) ≡ step_by Check t w pass
    write_late r no' = rw (check_write_is, ← no') refl
