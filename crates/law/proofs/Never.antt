-- What no call of a good map is answered: WAIT to a look or to the earliest sealed pass, STAMP TAKEN, NO VERSION.
use Rattle.std.proofs.Common.{◌≡◌, ℕ, ◌<◌, ◌≤◌, Bool, true, false, cond, ◌⊎◌, List, is_some, Some, sym, refl, ap, ◌∙◌, subst, ⊎_elim, arith}
use Rattle.std.proofs.lemmas.Bool.Decides.{nat_tests}
use Rattle.words.specs.Outcome.{Outcome, accepted, refused, refuse}
use Rattle.words.specs.declared.refusal.Refusal.TheVariants.{StampTaken, NoPlace}
use Rattle.words.specs.declared.status.Status.TheVariants.{Pending}
use Rattle.words.specs.declared.version.Version.{Version}
use Rattle.tables.specs.Versions.{top, holds}
use Rattle.tables.specs.Table.{insert_answer}
use Rattle.rules.specs.declared.entry.ReadEntry.{ReadEntry}
use Rattle.rules.specs.declared.entry.WriteEntry.{WriteEntry}
use Rattle.rules.specs.declared.call.Call.{Call}
use Rattle.rules.specs.Model.{Stage, idle, open', sealed, looking, Model, table_of}
use Rattle.rules.specs.Stamps.{last_stamp, keep_line}
use Rattle.rules.specs.Search.{visible, newest_below, search}
use Rattle.rules.specs.Rules.{outcome, next_step, to_install}
use Rattle.rules.proofs.Ways.{Why, by_itself, at_read, at_look, at_install, at_check, at_show, at_collect}
use Rattle.rules.proofs.Explained.{explained}
use Rattle.law.specs.Plain.{Pass}
use Rattle.law.specs.History.{in_pass, in_look, History}
use Rattle.law.specs.Law.{By, Earliest}
use Rattle.law.proofs.Under.{under, holds_under}
use Rattle.law.proofs.State.{Progress, State}
use Rattle.law.proofs.Searches.{Lacks, Uncommitted}
use Rattle.law.proofs.Cross.{cover, never_lacks, pending_runs}
use Rattle.law.proofs.Lines.{line_greatest, line_lower, line_look}
use Rattle.law.proofs.Good.{running, state, View, Does, Good}
use Rattle.law.proofs.Quiet.{doing_in}
use Rattle.law.proofs.Turns.{turn}
use Rattle.law.proofs.Found.{visible_refused, newest_below_refused, newest_searched}

module _ (m : Model) (h : History) (good : Good m h) where
  abbrev s : State
  s = state m good.pass

  line_positive : 0 < keep_line m
  line_positive = grind (arith, nat_tests, line_greatest)

  pub line_small : keep_line m ≤ top
  line_small = grind arith

  -- what a worker is doing tells its stage
  look_stage : (w f : ℕ) → h.doing w ≡ in_look f → (m.worker w).stage ≡ looking f
  look_stage w f e = grind arith

  -- a worker whose pass is sealed
  pub record IsSealed (w : ℕ) (p : Pass) : Type 0 where
    pub reads : List ReadEntry
    pub writes : List WriteEntry
    pub k : ℕ
    pub stage : (m.worker w).stage ≡ sealed reads writes k
    pub stamp : p.stamp ≡ last_stamp m w

  sealed_stage : (w : ℕ) (p : Pass) → h.doing w ≡ in_pass p true → IsSealed w p
  sealed_stage w p e = grind arith

  -- a pending version's stamp is that of a pass then sealed
  pub pending_sealed : (c t : ℕ) (x : Version) → under t (m.lists c) ≡ Some x → x.status ≡ Pending → (w : ℕ) × ((p : Pass) × (h.doing w ≡ in_pass p true) × (p.stamp ≡ t) × (w < m.workers) × (t ≡ last_stamp m w))
  pending_sealed c t x e still =
      let r = pending_runs s (keep_line m) good.inv c t x e still in
      let o = good.whose t r.0 r.1.0 r.1.1 in
      by o.worker o.within o.is r.0 r.2 (m.worker o.worker).stage o.view (good.does o.worker)
    where
      by : (w : ℕ) → w < m.workers → t ≡ last_stamp m w → (P : Progress) → 0 < P.k → (g : Stage) → View g P → Does g (last_stamp m w) good.pass (h.doing w)
          → (w : ℕ) × ((p : Pass) × (h.doing w ≡ in_pass p true) × (p.stamp ≡ t) × (w < m.workers) × (t ≡ last_stamp m w))
      by w l is P pos idle v d = absurd v
      by w l is P pos (open' rs ws) v d = grind arith
      by w l is P pos (sealed rs ws k) v d = grind arith
      by w l is P pos (looking f) v d = absurd v

  -- some version of a cell that is there is committed below every stamp that the keep line is not above
  pub some_committed : (c f : ℕ) → c < m.cells → keep_line m ≤ f → Lacks Uncommitted f (λ u. under u (m.lists c)) → ⊥
  some_committed c f in' le none = let a = cover s (keep_line m) good.inv c 0 0 f (grind (arith, nat_tests)) (let p = line_positive in omega arith) le in grind (arith, nat_tests)

  -- a stamp that a pass is to install is not there yet
  not_taken : (w : ℕ) (rs : List ReadEntry) (ws : List WriteEntry) (k : ℕ) (e : WriteEntry) → w < m.workers → (m.worker w).stage ≡ sealed rs ws k → next_step rs ws k ≡ to_install e → holds (last_stamp m w) (m.lists e.cell) ≡ false
  not_taken w rs ws k e l was is =
      let p = doing_in m h good w l (sealed rs ws k) was in
      let n = good.inv.apart (last_stamp m w) (running rs ws k) p.runs k e (turn rs ws k (to_install e) is) in
      holds_under (last_stamp m w) (m.lists e.cell) ∙ ap is_some (good.inv.agrees.missing (last_stamp m w) (running rs ws k) e.cell (p.runs, refl) n)

  abbrev insert_tests : Bool → Bool → Outcome ℕ
  insert_tests taken none = cond taken (refuse StampTaken) (cond none (refuse NoPlace) (accepted 0))

  insert_plain : (free : ℕ → ℕ) (c t n d : ℕ) → insert_answer (table_of free m) c t ≡ refused n d → ((n ≡ 7) × (holds t (m.lists c) ≡ true)) ⊎ ((n ≡ 2) ⊎ (n ≡ 8))
  insert_plain free c t n d e = grind arith

  -- the stamp below which a worker searches in a stage
  abbrev Bound : Stage → ℕ → ℕ → Type 0
  Bound idle t f = ⊥
  Bound (open' rs ws) t f = f ≡ t
  Bound (sealed rs ws k) t f = f ≡ t
  Bound (looking g) t f = f ≡ g

  -- a worker waits only for a pending version that it meets
  pub record Waiting (w d : ℕ) : Type 0 where
    pub cell : ℕ
    pub below : ℕ
    pub bound : Bound (m.worker w).stage (last_stamp m w) below
    pub version : Version
    pub here : under d (m.lists cell) ≡ Some version
    pub still : version.status ≡ Pending
    pub low : d < below

  module _ (free : ℕ → ℕ) where
    meets : (w c f d : ℕ) → Bound (m.worker w).stage (last_stamp m w) f → search (visible f) (table_of free m) c ≡ refused 6 d → Waiting w d
    meets w c f d bound e = ⊎_elim
        (λ a. absurd (let z = a.1 in omega arith))
        (λ a. ⊎_elim
        (λ b. record { cell = c; below = f; bound = bound; version = b.2.0; here = b.2.1; still = b.2.2; low = b.1 })
        (λ b. absurd (let z = b.0 in omega arith))
        a.1)
        (visible_refused m h good f free c 6 d e)

    in_stage : (w f : ℕ) (g : Stage) → (m.worker w).stage ≡ g → Bound g (last_stamp m w) f → Bound (m.worker w).stage (last_stamp m w) f
    in_stage w f g e b = subst (λ g. Bound g (last_stamp m w) f) (sym e) b

    pub waits : (w d : ℕ) (call : Call) → By w call → (outcome free m call).0 ≡ refused 6 d → Waiting w d
    waits w d call by e = from (explained free m call 6 d e).1
      where
        from : Why free m call 6 d → Waiting w d
        from (by_itself p) = absurd cc
        from (at_read v c rs ws is l was r) = subst (λ w. Waiting w d) (subst (By w) is by) (meets v c (last_stamp m v) d (in_stage v (last_stamp m v) (open' rs ws) was refl) r)
        from (at_look v c f is l was r) = subst (λ w. Waiting w d) (subst (By w) is by) (meets v c f d (in_stage v f (looking f) was refl) r)
        from (at_install v rs ws k x l was is r) = absurd (let z = insert_plain free x.cell (last_stamp m v) 6 d r in grind arith)
        from (at_check v rs ws k c is l was r) = subst (λ w. Waiting w d) (subst (By w) is by) (meets v c (last_stamp m v) d (in_stage v (last_stamp m v) (sealed rs ws k) was refl) r)
        from (at_show c is r) = absurd (subst (By w) is by)
        from (at_collect c is r) = absurd (subst (By w) is by)

    pub looks_never_wait : (w f d : ℕ) (call : Call) → h.doing w ≡ in_look f → By w call → (outcome free m call).0 ≡ refused 6 d → ⊥
    looks_never_wait w f d call e by no' =
        let was = look_stage w f e in
        let a = waits w d call by no' in
        let b = subst (λ g. Bound g (last_stamp m w) a.below) was a.bound in
        let p = pending_sealed a.cell d a.version a.here a.still in
        let l = (good.looks w f was).1 p.0 p.1.3 in
        let q = p.1.4 in let z = a.low in omega arith

    pub earliest_never_waits : (w d : ℕ) (call : Call) → Earliest h w → By w call → (outcome free m call).0 ≡ refused 6 d → ⊥
    earliest_never_waits w d call early by no' =
        let i = sealed_stage w early.pass early.sealed in
        let a = waits w d call by no' in
        let b = subst (λ g. Bound g (last_stamp m w) a.below) i.stage a.bound in
        let p = pending_sealed a.cell d a.version a.here a.still in
        let f = early.first p.0 p.1.0 p.1.1 in
        let q = p.1.2 in let r = i.stamp in let z = a.low in omega arith

    -- a search below a stamp that the keep line is not above is never refused but with WAIT
    finds_some : (f c n d : ℕ) → keep_line m ≤ f → (n ≡ 7) ⊎ (n ≡ 9) → search (visible f) (table_of free m) c ≡ refused n d → ⊥
    finds_some f c n d le odd e = ⊎_elim
        (λ a. grind arith)
        (λ a. ⊎_elim
        (λ b. grind arith)
        (λ b. never_lacks s (keep_line m) good.inv c f a.0 (let p = line_positive in omega arith) le b.1)
        a.1)
        (visible_refused m h good f free c n d e)

    finds_newest : (f c n d : ℕ) → keep_line m ≤ f → (n ≡ 7) ⊎ (n ≡ 9) → search (newest_below f) (table_of free m) c ≡ refused n d → ⊥
    finds_newest f c n d le odd e = ⊎_elim
        (λ a. grind arith)
        (λ a. some_committed c f a.0 le a.2)
        (newest_below_refused m h good f free c n d e)

    -- no call is answered STAMP TAKEN or NO VERSION
    pub never_odd : (n d : ℕ) (call : Call) → (n ≡ 7) ⊎ (n ≡ 9) → (outcome free m call).0 ≡ refused n d → ⊥
    never_odd n d call odd e = from (explained free m call n d e).1
      where
        from : Why free m call n d → ⊥
        from (by_itself p) = grind arith
        from (at_read w c rs ws is l was r) = finds_some (last_stamp m w) c n d (line_lower m good.some w l) odd r
        from (at_look w c f is l was r) = finds_some f c n d (line_look m good.some w f l was) odd r
        from (at_install w rs ws k x l was is r) = grind (arith, nat_tests, not_taken)
        from (at_check w rs ws k c is l was r) = finds_some (last_stamp m w) c n d (line_lower m good.some w l) odd r
        from (at_show c is r) = finds_newest top c n d line_small odd (sym (newest_searched m h good free c) ∙ r)
        from (at_collect c is r) = finds_newest (keep_line m) c n d (omega arith) odd r
