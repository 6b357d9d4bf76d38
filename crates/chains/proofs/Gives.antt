-- A record taken out of a cell's chain and put in front of the free ones.
use Rattle.std.proofs.Common.{◌≡◌, ℕ, ◌+◌, ◌≤◌, true, List, ◌∷◌, ◌++◌, map, length, Some, Option, sym, refl, ap, ◌∙◌, subst, ap₂, arith}
use Rattle.std.proofs.lemmas.List.{map-append}
use Rattle.words.specs.declared.version.Version.{Version}
use Rattle.tables.specs.Versions.{sinks}
use Rattle.chains.specs.declared.record.Record.{Record}
use Rattle.chains.specs.Chain.{next_of, version_of, path, good, along}
use Rattle.chains.specs.Store.{Store, path_of, freed, Touches, Unused}
use Rattle.chains.specs.Kept.{count, Kept}
use Rattle.chains.proofs.Sums.{count_first}
use Rattle.chains.proofs.Paths.{Linked, linked, linked_ends, path_short, Stepped, stepped}
use Rattle.chains.proofs.Keeps.{follows}
use Rattle.chains.proofs.Changes.{Changed}
use Rattle.chains.proofs.Moves.{Split, newer_apart, alone, touches, unused, long, framed, seen, rewritten, fronted, moves}
use Rattle.chains.proofs.Takes.{free_path}

module _ {s : Store} (kept : Kept s) {c : ℕ} {p : List ℕ} {newer : Option ℕ} {j : ℕ} (parts : Split s c p newer (Some j)) where
  abbrev L : ℕ
  L = length s.records

  abbrev next : Option ℕ
  next = next_of s.records j

  abbrev others : List ℕ
  others = path s.records next

  abbrev free : List ℕ
  free = path_of s s.cells

  abbrev s' : Store
  s' = freed s c newer j

  abbrev r : Record
  r = record { version = version_of s.records j; next = s.free }

  step : Stepped s.records j
  step = stepped s.records j parts.onward

  home : 1 ≤ count j (path s.records (Some j)) + count j free
  home = omega (arith, ap (count j) step.opens, count_first j others)

  pub give_touches : Touches s c newer j
  give_touches = touches kept parts j home

  pub give_unused : Unused s s'
  give_unused = unused kept parts j home r next (Some j) (s.count + 1)

  off : (count j others ≡ 0) × (count j free ≡ 0)
  off =
      let one = alone kept parts j home in
      let first = ap (count j) step.opens ∙ count_first j others in
      (omega arith, omega arith)

  tail : Linked L s'.records next others
  tail = framed kept parts j home r next (Some j) (s.count + 1) next others off.0 (λ k e. omega (arith, (newer_apart kept parts k e).0, ap (count k) step.opens)) (linked L L s.records next step.onward)

  rest : Linked L s'.records (Some j) (j ∷ free)
  rest = (
    refl,
    step.within,
    subst (λ (z : Record). Linked L s'.records z.next free) (sym (rewritten kept parts j home r next (Some j) (s.count + 1)))
        (framed kept parts j home r next (Some j) (s.count + 1) s.free free off.1 (λ k e. (newer_apart kept parts k e).1) (subst (λ (l : Option ℕ). Linked L s.records l free) (free_path s) (follows kept s.cells))),
  )

  once : (i : ℕ) → count i (path s.records (Some j)) + count i free ≡ count i others + count i (j ∷ free)
  once i = omega (arith, ap (count i) step.opens)

  all : length (path s.records (Some j)) + length free ≡ length others + length (j ∷ free)
  all = omega (arith, ap length step.opens)

  same : (a : List ℕ) → count j a ≡ 0 → map (version_of s'.records) a ≡ map (version_of s.records) a
  same = seen kept parts j home r next (Some j) (s.count + 1)

  pub same_front : map (version_of s'.records) p ≡ map (version_of s.records) p
  same_front = same p (alone kept parts j home).0

  -- the cell's list loses the version of j, and keeps the others
  pub gives : sinks (map (version_of s.records) p ++ along s.records next) ≡ true → Changed s s' c (map (version_of s.records) p ++ along s.records next)
  gives =
      moves kept parts j home r next (Some j) (s.count + 1) others (j ∷ free) tail rest once all (omega (arith, kept.counted)) _
      (map-append (version_of s'.records) p others ∙ ap₂ (λ (x y : List Version). x ++ y) same_front (same others off.0))

  -- what is behind j is on the same path afterwards, with the same versions
  after : (good s'.records next ≡ true) × (path s'.records next ≡ others)
  after =
      let size = long kept parts j home r next (Some j) (s.count + 1) in
      linked_ends (length s'.records) (length s'.records) s'.records next others (subst (λ (u : ℕ). Linked u s'.records next others) (sym size) tail) (omega (arith, path_short s.records next))

  pub give_parts : Split s' c p newer next
  give_parts =
      record {
        within = parts.within;
        split = fronted kept parts j home r next (Some j) (s.count + 1) others (j ∷ free) tail rest once all ∙ ap (λ (q : List ℕ). p ++ q) (sym after.1);
        onward = after.0;
        last = parts.last;
      }

  pub same_path : path s'.records next ≡ others
  same_path = after.1

  pub same_along : along s'.records next ≡ along s.records next
  same_along = ap (map (version_of s'.records)) after.1 ∙ same others off.0
