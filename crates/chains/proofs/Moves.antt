-- One record rewritten and one chain led elsewhere: what becomes of all the paths. Inserting a
-- record and freeing one are both such a move.
use Rattle.std.proofs.Common.{◌≡◌, ℕ, suc, ◌+◌, ◌<◌, ◌≤◌, true, ◌⊎◌, inl, inr, List, [], ◌∷◌, ◌++◌, map, length, get_or, drop, set, Some, None, Option, sym, refl, ap, ◌∙◌, subst, ⊎_elim, arith}
use Rattle.std.proofs.lemmas.List.{length-set, get_or-set_same, get_or-set_other, length-append, drop-set-lt}
use Rattle.std.proofs.lemmas.Bool.{cases_lt, cases_eq, lt-ltb, le-ltb, eq-eqb, ne_eqb}
use Rattle.std.proofs.lemmas.Bool.Decides.{nat_tests}
use Rattle.words.specs.declared.version.Version.{Version}
use Rattle.tables.specs.Versions.{sinks}
use Rattle.tables.specs.Table.{put}
use Rattle.tables.proofs.Lengths.{put_here, put_other}
use Rattle.chains.specs.declared.record.Record.{Record}
use Rattle.chains.specs.Chain.{blank, version_of, path, good, last_of}
use Rattle.chains.specs.Store.{Store, link, path_of, heads_to, records_to, moved, Touches, Unused}
use Rattle.chains.specs.Kept.{count, sum, Kept}
use Rattle.chains.proofs.Sums.{count_append, sum_same, sum_put, sum_two}
use Rattle.chains.proofs.Paths.{Led, Linked, linked, led_append, led_front, led_by, relinked, last_counted, versions_by, not_on}
use Rattle.chains.proofs.Keeps.{follows, Pathed, pathed, within, stands_once, nowhere_else}
use Rattle.chains.proofs.Changes.{Changed, changed}

-- leading the link behind `newer` elsewhere changes no other record, and no version
to_other : (newer to : Option ℕ) (rs : List Record) (i : ℕ) → (newer ≡ Some i → ⊥) → get_or (records_to newer to rs) i blank ≡ get_or rs i blank
to_other None to rs i ne = refl
to_other (Some k) to rs i ne = get_or-set_other rs k i _ blank (λ e. ne (ap Some (sym e)))

to_version : (newer to : Option ℕ) (rs : List Record) (i : ℕ) → ((k : ℕ) → newer ≡ Some k → k < length rs) → version_of (records_to newer to rs) i ≡ version_of rs i
to_version None to rs i in' = refl
to_version (Some k) to rs i in' =
    ⊎_elim
    (λ (e : i ≡ k). subst (λ (j : ℕ). version_of (set rs k (record { version = version_of rs k; next = to })) j ≡ version_of rs j) (sym e) (ap (λ (z : Record). z.version) (get_or-set_same rs k _ blank (in' k refl))))
    (λ ne. ap (λ (z : Record). z.version) (get_or-set_other rs k i _ blank ne))
    (cases_eq i k)

to_length : (newer to : Option ℕ) (rs : List Record) → length (records_to newer to rs) ≡ length rs
to_length None to rs = refl
to_length (Some k) to rs = length-set rs k _

heads_length : (newer : Option ℕ) (c : ℕ) (to : Option ℕ) (hs : List (Option ℕ)) → length (heads_to newer c to hs) ≡ length hs
heads_length None c to hs = length-set hs c to
heads_length (Some k) c to hs = refl

-- the chain itself, from its head on
to_front : (u : ℕ) (newer to : Option ℕ) (rs : List Record) (hs : List (Option ℕ)) (c : ℕ) (m : Option ℕ) (p : List ℕ) → c < length hs → newer ≡ last_of None p → ((k : ℕ) → newer ≡ Some k → (k < length rs) × (count k p ≡ 1)) → Led u rs (get_or hs c None) p m → Led u (records_to newer to rs) (get_or (heads_to newer c to hs) c None) p to
to_front u newer to rs hs c m [] in' last once h =
    subst (λ (z : Option ℕ). get_or (heads_to z c to hs) c None ≡ to) (sym last) (get_or-set_same hs c to None in')
to_front u None to rs hs c m (j ∷ p) in' last once h = absurd (none_last j p last)
  where
    none_last : (j : ℕ) (p : List ℕ) → None ≡ last_of (Some j) p → ⊥
    none_last j [] e = cc
    none_last j (i ∷ p) e = none_last i p e
to_front u (Some k) to rs hs c m (j ∷ p) in' last once h =
    relinked u rs (get_or hs c None) m j p k (record { version = version_of rs k; next = to }) (sym last) (once k refl).0 (once k refl).1 h

-- newer stands at the end of p
ends_front : (newer : Option ℕ) (p : List ℕ) (k : ℕ) → newer ≡ last_of None p → newer ≡ Some k → 1 ≤ count k p
ends_front newer [] k last e = cc
ends_front newer (j ∷ p) k last e = last_counted j p k (sym last ∙ e)

-- chain c in two parts: `newer` ends the first, and the link `at` leads to the second
pub record Split (s : Store) (c : ℕ) (p : List ℕ) (newer at : Option ℕ) : Type 0 where
  pub within : c < s.cells
  pub split : path_of s c ≡ p ++ path s.records at
  pub onward : good s.records at ≡ true
  pub last : newer ≡ last_of None p

module _ {s : Store} (kept : Kept s) {c : ℕ} {p : List ℕ} {newer at : Option ℕ} (parts : Split s c p newer at) where
  abbrev L : ℕ
  L = length s.records

  abbrev q : List ℕ
  q = path s.records at

  abbrev free : List ℕ
  free = path_of s s.cells

  -- newer stands once in chain c, at the end of p
  newer_in : (k : ℕ) → newer ≡ Some k → 1 ≤ count k (path_of s c)
  newer_in k e = omega (arith, ends_front newer p k parts.last e, ap (count k) parts.split, count_append k p q)

  newer_once : (k : ℕ) → newer ≡ Some k → (count k p ≡ 1) × (count k q ≡ 0)
  newer_once k e =
      let first = ends_front newer p k parts.last e in
      let one = stands_once kept c k (omega arith) (newer_in k e) in
      let both = ap (count k) parts.split ∙ count_append k p q in
      (omega arith, omega arith)

  newer_used : (k : ℕ) → newer ≡ Some k → k < s.used
  newer_used k e = within kept c k (omega arith) (newer_in k e)

  newer_else : (k : ℕ) → newer ≡ Some k → (a : ℕ) → (a ≡ c → ⊥) → count k (path_of s a) ≡ 0
  newer_else k e = nowhere_else kept c k (omega arith) (newer_in k e)

  pub newer_apart : (k : ℕ) → newer ≡ Some k → (count k q ≡ 0) × (count k free ≡ 0)
  newer_apart k e = ((newer_once k e).1, newer_else k e s.cells (λ z. omega arith))

  -- x stands behind newer, or is free
  module _ (x : ℕ) (home : 1 ≤ count x q + count x free) where
    pub alone : (count x p ≡ 0) × (count x q + count x free ≡ 1)
    alone =
        let t = kept.tallied x in
        let two = sum_two (suc s.cells) (λ b. count x (path_of s b)) c s.cells (omega arith) (omega arith) (λ z. omega arith) in
        let both = ap (count x) parts.split ∙ count_append x p q in
        grind (arith, nat_tests)

    in_one : (1 ≤ count x free) ⊎ (1 ≤ count x (path_of s c))
    in_one = ⊎_elim (λ (l : 0 < count x free). inl (omega arith)) (λ l. inr (omega (arith, ap (count x) parts.split, count_append x p q))) (cases_lt 0 (count x free))

    apart : (a : ℕ) → (a ≡ c → ⊥) → (a ≡ s.cells → ⊥) → count x (path_of s a) ≡ 0
    apart a ne nf =
        ⊎_elim (λ (l : 1 ≤ count x free). nowhere_else kept s.cells x (omega arith) l a nf) (λ l. nowhere_else kept c x (omega arith) l a ne) in_one

    pub x_used : x < s.used
    x_used = ⊎_elim (λ (l : 1 ≤ count x free). within kept s.cells x (omega arith) l) (λ l. within kept c x (omega arith) l) in_one

    -- what a move writes is there
    pub touches : Touches s c newer x
    touches =
        let inside = x_used in
        record { headed = omega (arith, kept.sized.headed); lent = omega (arith, kept.sized.lent); led = λ k e. omega (arith, newer_used k e, kept.sized.lent) }

    module _ (r : Record) (to fl : Option ℕ) (n : ℕ) where
      abbrev s' : Store
      s' = moved s c newer to x r fl n

      -- what a move leaves of the memory that is not used
      pub unused : Unused s s'
      unused = record { cells = refl; used = refl; heads = heads newer; records = records newer newer_used }
        where
          heads : (z : Option ℕ) → drop s.cells (heads_to z c to s.heads) ≡ drop s.cells s.heads
          heads None = drop-set-lt s.cells s.heads c to parts.within
          heads (Some k) = refl

          records : (z : Option ℕ) → ((k : ℕ) → z ≡ Some k → k < s.used) → drop s.used (records_to z to (set s.records x r)) ≡ drop s.used s.records
          records None l = drop-set-lt s.used s.records x r x_used
          records (Some k) l = drop-set-lt s.used (set s.records x r) k _ (l k refl) ∙ drop-set-lt s.used s.records x r x_used

      pub long : length s'.records ≡ L
      long = to_length newer to (set s.records x r) ∙ length-set s.records x r

      newer_inside : (k : ℕ) → newer ≡ Some k → k < length (set s.records x r)
      newer_inside k e = omega (arith, newer_used k e, kept.sized.lent, length-set s.records x r)

      -- a path off x and off newer is as it was, and so are the versions of one off x
      pub framed : (l : Option ℕ) (a : List ℕ) → count x a ≡ 0 → ((k : ℕ) → newer ≡ Some k → count k a ≡ 0) → Linked L s.records l a → Linked L s'.records l a
      framed l a off none =
          led_by L s.records s'.records l None a
          (λ i on. ap (λ (z : Record). z.next) (to_other newer to (set s.records x r) i (λ e. omega (arith, none i e)) ∙ get_or-set_other s.records x i r blank (not_on a x i off on)))

      pub seen : (a : List ℕ) → count x a ≡ 0 → map (version_of s'.records) a ≡ map (version_of s.records) a
      seen a off =
          versions_by s.records s'.records a
          (λ i on. to_version newer to (set s.records x r) i newer_inside ∙ ap (λ (z : Record). z.version) (get_or-set_other s.records x i r blank (not_on a x i off on)))

      -- x itself
      pub rewritten : get_or s'.records x blank ≡ r
      rewritten = to_other newer to (set s.records x r) x (λ e. omega (arith, alone.0, (newer_once x e).0)) ∙ get_or-set_same s.records x r blank (omega (arith, x_used, kept.sized.lent))

      -- the front of the chain itself now comes to the link `to`
      front_led : Led L s'.records (get_or (heads_to newer c to s.heads) c None) p to
      front_led =
          let here : Linked L s.records (get_or s.heads c None) (p ++ q) = subst (λ (z : List ℕ). Linked L s.records (get_or s.heads c None) z) parts.split (subst (λ (l : Option ℕ). Linked L s.records l (path_of s c)) (simp (lt-ltb c s.cells parts.within)) (follows kept c)) in
          let front = led_by L s.records (set s.records x r) (get_or s.heads c None) at p (λ i on. ap (λ (z : Record). z.next) (get_or-set_other s.records x i r blank (not_on p x i alone.0 on))) (led_front L s.records (get_or s.heads c None) at p q here (linked L L s.records at parts.onward)) in
          to_front L newer to (set s.records x r) s.heads c at p (omega (arith, kept.sized.headed)) parts.last (λ k e. (newer_inside k e, (newer_once k e).0)) front

      module _ (q' fp : List ℕ) (tail : Linked L s'.records to q') (rest : Linked L s'.records fl fp) (once : (j : ℕ) → count j q + count j free ≡ count j q' + count j fp) (all : length q + length free ≡ length q' + length fp) where
        -- the paths afterwards
        abbrev after : ℕ → List ℕ
        after = put (put (path_of s) c (p ++ q')) s.cells fp

        after_own : after c ≡ p ++ q'
        after_own = put_other (put (path_of s) c (p ++ q')) s.cells fp c (λ e. omega arith) ∙ put_here (path_of s) c (p ++ q')

        after_other : (a : ℕ) → (a ≡ c → ⊥) → (a ≡ s.cells → ⊥) → after a ≡ path_of s a
        after_other a ne nf = put_other (put (path_of s) c (p ++ q')) s.cells fp a nf ∙ put_other (path_of s) c (p ++ q') a ne

        led_free : Linked L s'.records (link s' s.cells) (after s.cells)
        led_free = subst (λ (z : List ℕ). Linked L s'.records (link s' s.cells) z) (sym (put_here (put (path_of s) c (p ++ q')) s.cells fp)) (simp (le-ltb s.cells s.cells (omega arith), eq-eqb s.cells s.cells refl) rest)

        led_own : Linked L s'.records (link s' c) (after c)
        led_own = subst (λ (z : List ℕ). Linked L s'.records (link s' c) z) (sym after_own) (simp (lt-ltb c s.cells parts.within) (led_append L s'.records (get_or (heads_to newer c to s.heads) c None) to None p q' front_led tail))

        led_other : (a : ℕ) → (a ≡ c → ⊥) → (a ≡ s.cells → ⊥) → Linked L s'.records (link s' a) (after a)
        led_other a ne nf =
            subst (λ (l : Option ℕ). Linked L s'.records l (after a)) (sym (other newer)) (subst (λ (z : List ℕ). Linked L s'.records (link s a) z) (sym (after_other a ne nf)) (framed (link s a) (path_of s a) (apart a ne nf) (λ k e. newer_else k e a ne) (follows kept a)))
          where
            other : (z : Option ℕ) → link (moved s c z to x r fl n) a ≡ link s a
            other None = simp (ne_eqb a s.cells nf, get_or-set_other s.heads c a to None ne)
            other (Some k) = simp (ne_eqb a s.cells nf)

        led_after : (a : ℕ) → Linked L s'.records (link s' a) (after a)
        led_after a =
            ⊎_elim
            (λ (e : a ≡ s.cells). subst (λ (z : ℕ). Linked L s'.records (link s' z) (after z)) (sym e) led_free)
            (λ nf. ⊎_elim (λ (e : a ≡ c). subst (λ (z : ℕ). Linked L s'.records (link s' z) (after z)) (sym e) led_own) (λ ne. led_other a ne nf) (cases_eq a c))
            (cases_eq a s.cells)

        -- a number that is counted along the paths is moved with them
        balanced : (f : List ℕ → ℕ) → f (path_of s c) + f free ≡ f (p ++ q') + f fp → sum (suc s.cells) (λ a. f (after a)) ≡ sum (suc s.cells) (λ a. f (path_of s a))
        balanced f e =
            let g : ℕ → ℕ = λ a. f (path_of s a) in
            let same = sum_same (suc s.cells) (λ a. f (after a)) (put (put g c (f (p ++ q'))) s.cells (f fp)) (λ a _. grind (arith, nat_tests)) in
            let one = sum_put (suc s.cells) g c (f (p ++ q')) (omega arith) in
            let two = sum_put (suc s.cells) (put g c (f (p ++ q'))) s.cells (f fp) (omega arith) in
            let still = put_other g c (f (p ++ q')) s.cells (λ z. omega arith) in
            omega arith

        done : Pathed s' after
        done =
            pathed s' after (omega (arith, kept.sized.lent, long))
            (λ a. subst (λ (u : ℕ). Linked u s'.records (link s' a) (after a)) (sym long) (led_after a))
            (λ j. balanced (count j) (omega (arith, ap (count j) parts.split, count_append j p q, count_append j p q', once j)) ∙ kept.tallied j)
            (balanced length (omega (arith, ap length parts.split, length-append p q, length-append p q', all)) ∙ kept.full)

        -- the chain afterwards, as its paths say
        pub fronted : path_of s' c ≡ p ++ q'
        fronted = ap (λ (F : ℕ → List ℕ). F c) done.paths ∙ after_own

        pub moves : n ≡ length fp → (vs : List Version) → map (version_of s'.records) (p ++ q') ≡ vs → sinks vs ≡ true → Changed s s' c vs
        moves counted vs here sink =
            changed s s' c vs after kept parts.within refl
            (record { few = kept.sized.few; roomy = kept.sized.roomy; headed = omega (arith, kept.sized.headed, heads_length newer c to s.heads); lent = omega (arith, kept.sized.lent, long) })
            done (counted ∙ ap length (sym (put_here (put (path_of s) c (p ++ q')) s.cells fp)))
            (ap (map (version_of s'.records)) after_own ∙ here)
            (λ a l ne. ap (map (version_of s'.records)) (after_other a ne (λ z. omega arith)) ∙ seen (path_of s a) (apart a ne (λ z. omega arith)))
            sink
