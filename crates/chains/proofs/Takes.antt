-- The first free record, written and put into a cell's chain.
use Rattle.std.proofs.Common.{◌≡◌, ℕ, ◌+◌, ◌-◌, ◌≤◌, true, List, ◌∷◌, ◌++◌, map, length, Some, Option, sym, refl, ap, ◌∙◌, subst, ap₂, arith}
use Rattle.std.proofs.lemmas.List.{map-append}
use Rattle.std.proofs.lemmas.Bool.{le-ltb, eq-eqb}
use Rattle.words.specs.declared.version.Version.{Version}
use Rattle.tables.specs.Versions.{sinks}
use Rattle.chains.specs.declared.record.Record.{Record}
use Rattle.chains.specs.Chain.{next_of, version_of, path, along}
use Rattle.chains.specs.Store.{Store, link, path_of, taken, Touches, Unused}
use Rattle.chains.specs.Kept.{count, Kept}
use Rattle.chains.proofs.Sums.{count_first}
use Rattle.chains.proofs.Paths.{Linked, linked, Stepped, at_some}
use Rattle.chains.proofs.Changes.{Changed}
use Rattle.chains.proofs.Moves.{Split, newer_apart, alone, touches, unused, framed, seen, rewritten, moves}

-- the free records are the last chain
pub free_path : (s : Store) → link s s.cells ≡ s.free
free_path s = simp (le-ltb s.cells s.cells (omega arith), eq-eqb s.cells s.cells refl)

-- the first of them is counted
module _ {s : Store} (kept : Kept s) (f : ℕ) (free : s.free ≡ Some f) where
  abbrev next : Option ℕ
  next = next_of s.records f

  abbrev others : List ℕ
  others = path s.records next

  step : Stepped s.records f
  step = at_some s.records (link s s.cells) f (kept.ends s.cells) (free_path s ∙ free)

  opens : path_of s s.cells ≡ f ∷ others
  opens = ap (path s.records) (free_path s ∙ free) ∙ step.opens

  pub some_free : 1 ≤ s.count
  some_free = omega (arith, kept.counted, ap length opens)

  module _ {c : ℕ} {p : List ℕ} {newer at : Option ℕ} (parts : Split s c p newer at) where
    abbrev L : ℕ
    L = length s.records

    abbrev q : List ℕ
    q = path s.records at

    home : 1 ≤ count f q + count f (path_of s s.cells)
    home = omega (arith, ap (count f) opens, count_first f others)

    pub take_touches : Touches s c newer f
    take_touches = touches kept parts f home

    module _ (v : Version) where
      abbrev s' : Store
      s' = taken s c newer at f v

      abbrev r : Record
      r = record { version = v; next = at }

      pub take_unused : Unused s s'
      take_unused = unused kept parts f home r (Some f) next (s.count - 1)

      -- the cell's list has the version between those of p and those behind `at`
      pub takes : sinks (map (version_of s.records) p ++ (v ∷ along s.records at)) ≡ true → Changed s s' c (map (version_of s.records) p ++ (v ∷ along s.records at))
      takes =
          let one = alone kept parts f home in
          let first = ap (count f) opens ∙ count_first f others in
          let off : (count f q ≡ 0) × (count f others ≡ 0) = (omega arith, omega arith) in
          let still = framed kept parts f home r (Some f) next (s.count - 1) in
          let same = seen kept parts f home r (Some f) next (s.count - 1) in
          let written = rewritten kept parts f home r (Some f) next (s.count - 1) in
          let tail : Linked L s'.records (Some f) (f ∷ q) = (refl, step.within, subst (λ (z : Record). Linked L s'.records z.next q) (sym written) (still at q off.0 (λ k e. (newer_apart kept parts k e).0) (linked L L s.records at parts.onward))) in
          let rest = still next others off.1 (λ k e. omega (arith, (newer_apart kept parts k e).1, ap (count k) opens)) (linked L L s.records next step.onward) in
          moves kept parts f home r (Some f) next (s.count - 1) (f ∷ q) others tail rest (λ j. omega (arith, ap (count j) opens)) (omega (arith, ap length opens)) (omega (arith, kept.counted, ap length opens)) _
          (map-append (version_of s'.records) p (f ∷ q) ∙ ap₂ (λ (x y : List Version). x ++ y) (same p one.0) (ap₂ (λ (x : Version) (y : List Version). x ∷ y) (ap (λ (z : Record). z.version) written) (same q off.0)))
