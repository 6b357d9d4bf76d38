-- What stands at a position of a sinking list once a version has been put in by its stamp: what
-- stood there, if it is stamped above; else the new version or what stood before.
use Rattle.std.proofs.Common.{◌≡◌, ℕ, zero, suc, ◌-◌, ◌<◌, Bool, true, false, leb, List, [], ◌∷◌, refl, arith, nat_lt}
use native.Mathlib.Numerals.{unary_clauses}
use Rattle.std.proofs.lemmas.Bool.Decides.{nat_tests}
use Rattle.words.specs.Outcome.{Outcome, accepted, refused}
use Rattle.words.specs.declared.version.Version.{Version}
use Rattle.tables.specs.Versions.{top, ordered, with_version}
use Rattle.tables.specs.Table.{Table, Sound, version_in, version_answer}

-- whether a version was answered and is stamped above s
abbrev pub above : ℕ → Outcome Version → Bool
above s (accepted v) = nat_lt s v.write
above s (refused n d) = false

-- a position further on is that position in the rest
one_on : (w : Version) (ws : List Version) (i : ℕ) → version_in (w ∷ ws) (suc i) ≡ version_in ws i
one_on w ws i = grind (arith, nat_tests)

module _ (v : Version) where
  -- a bound of the list is above whatever a version of the list is above
  bound_above : (n : ℕ) (vs : List Version) (i : ℕ) → ordered leb n vs ≡ true → above v.write (version_in vs i) ≡ true → v.write < n
  bound_above n [] i h a = grind (arith, nat_tests)
  bound_above n (w ∷ ws) zero h a = grind (arith, nat_tests)
  bound_above n (w ∷ ws) (suc i) h a = grind (arith, nat_tests, one_on w ws i, bound_above w.write ws i)

  stays_here : (n : ℕ) (vs : List Version) (i : ℕ) → ordered leb n vs ≡ true → above v.write (version_in vs i) ≡ true → version_in (with_version v vs) i ≡ version_in vs i
  stays_here n [] i h a = grind (arith, nat_tests)
  stays_here n (w ∷ ws) zero h a = grind (arith, nat_tests)
  stays_here n (w ∷ ws) (suc i) h a = grind (arith, nat_tests, one_on w ws i, one_on w (with_version v ws) i, bound_above w.write ws i, stays_here w.write ws i)

  stands_first : (vs : List Version) → above v.write (version_in vs 0) ≡ false → version_in (with_version v vs) 0 ≡ accepted v
  stands_first [] b = refl
  stands_first (w ∷ ws) b = grind (arith, nat_tests)

  stands_between : (n : ℕ) (vs : List Version) (i : ℕ) → ordered leb n vs ≡ true → above v.write (version_in vs i) ≡ true → above v.write (version_in vs (suc i)) ≡ false → version_in (with_version v vs) (suc i) ≡ accepted v
  stands_between n [] i h a b = grind (arith, nat_tests)
  stands_between n (w ∷ ws) zero h a b = grind (arith, nat_tests, one_on w ws 0, one_on w (with_version v ws) 0, stands_first ws)
  stands_between n (w ∷ ws) (suc i) h a b = grind (arith, nat_tests, one_on w ws i, one_on w ws (suc i), one_on w (with_version v ws) (suc i), bound_above w.write ws i, stands_between w.write ws i)

  moves_on : (n : ℕ) (vs : List Version) (i : ℕ) → ordered leb n vs ≡ true → above v.write (version_in vs i) ≡ false → version_in (with_version v vs) (suc i) ≡ version_in vs i
  moves_on n [] i h a = grind (arith, nat_tests)
  moves_on n (w ∷ ws) zero h a = grind (arith, nat_tests)
  moves_on n (w ∷ ws) (suc i) h a = grind (arith, nat_tests, one_on w ws i, one_on w (with_version v ws) (suc i), one_on v (w ∷ ws) (suc i), moves_on w.write ws i)

-- what a table answers tells what it would answer with the version v put into the list
module _ (t : Table) (sound : Sound t) (c : ℕ) (within : c < t.cells) (v : Version) where
  abbrev pub beside : ℕ → Outcome Version
  beside i = version_in (with_version v (t.versions c)) i

  pub beside_here : (i : ℕ) (o : Outcome Version) → o ≡ version_answer t c i → above v.write o ≡ true → o ≡ beside i
  beside_here i o e a = grind (arith, nat_tests, stays_here v top (t.versions c) i (sound.sinking c))

  pub beside_between : (i : ℕ) (o p : Outcome Version) → (i ≡ 0 → ⊥) → o ≡ version_answer t c i → above v.write o ≡ false → p ≡ version_answer t c (i - 1) → above v.write p ≡ true → accepted v ≡ beside i
  beside_between zero o p n e a f b = absurd (n refl)
  beside_between (suc i) o p n e a f b =
      let f' = simp unary_clauses at f in
      grind (arith, nat_tests, stands_between v top (t.versions c) i (sound.sinking c))

  pub beside_after : (i : ℕ) (p : Outcome Version) → (i ≡ 0 → ⊥) → p ≡ version_answer t c (i - 1) → above v.write p ≡ false → p ≡ beside i
  beside_after zero p n f b = absurd (n refl)
  beside_after (suc i) p n f b =
      let f' = simp unary_clauses at f in
      grind (arith, nat_tests, moves_on v top (t.versions c) i (sound.sinking c))
