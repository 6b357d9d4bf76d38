-- The version of one record rewritten, its link kept: raise and mark.
use Rattle.std.proofs.Common.{◌≡◌, ℕ, ◌<◌, ◌≤◌, true, List, ◌∷◌, ◌++◌, map, length, set, None, sym, refl, ap, ◌∙◌, subst, ap₂, ⊎_elim, arith}
use Rattle.std.proofs.lemmas.List.{length-set, get_or-set_same, get_or-set_other, map-append}
use Rattle.std.proofs.lemmas.Bool.{cases_eq}
use Rattle.words.specs.declared.version.Version.{Version}
use Rattle.tables.specs.Versions.{sinks}
use Rattle.chains.specs.declared.record.Record.{Record}
use Rattle.chains.specs.Chain.{blank, next_of, version_of}
use Rattle.chains.specs.Store.{Store, link, path_of, rewrite}
use Rattle.chains.specs.Kept.{count, Kept}
use Rattle.chains.specs.Walk.{Found}
use Rattle.chains.proofs.Sums.{count_append, count_first}
use Rattle.chains.proofs.Paths.{Linked, led_by, versions_by, not_on}
use Rattle.chains.proofs.Keeps.{follows, Pathed, pathed, within, stands_once, nowhere_else}
use Rattle.chains.proofs.Changes.{Changed, changed}

module _ {s : Store} (kept : Kept s) {c : ℕ} (in' : c < s.cells) {t i : ℕ} (found : Found s.records (path_of s c) t i) where
  abbrev p : List ℕ
  p = found.front

  abbrev q : List ℕ
  q = found.back

  i_in : 1 ≤ count i (path_of s c)
  i_in = omega (arith, ap (count i) found.split, count_append i p (i ∷ q), count_first i q)

  pub found_used : i < s.used
  found_used = within kept c i (omega arith) i_in

  inside : i < length s.records
  inside = omega (arith, found_used, kept.sized.lent)

  off : (count i p ≡ 0) × (count i q ≡ 0)
  off =
      let once = stands_once kept c i (omega arith) i_in in
      let parts = ap (count i) found.split ∙ count_append i p (i ∷ q) in
      let first = count_first i q in
      (omega arith, omega arith)

  module _ (v : Version) where
    abbrev r : Record
    r = record { version = v; next = next_of s.records i }

    abbrev rs' : List Record
    rs' = set s.records i r

    same_link : (j : ℕ) → next_of rs' j ≡ next_of s.records j
    same_link j =
        ⊎_elim
        (λ (e : j ≡ i). subst (λ (k : ℕ). next_of rs' k ≡ next_of s.records k) (sym e) (ap (λ (z : Record). z.next) (get_or-set_same s.records i r blank inside)))
        (λ ne. ap (λ (z : Record). z.next) (get_or-set_other s.records i j r blank ne))
        (cases_eq j i)

    same : (a : List ℕ) → count i a ≡ 0 → map (version_of rs') a ≡ map (version_of s.records) a
    same a out = versions_by s.records rs' a (λ j on. ap (λ (z : Record). z.version) (get_or-set_other s.records i j r blank (not_on a i j out on)))

    done : Pathed (rewrite s i v) (path_of s)
    done =
        let long = length-set s.records i r in
        pathed (rewrite s i v) (path_of s) (omega (arith, kept.sized.lent))
        (λ a. subst (λ (u : ℕ). Linked u rs' (link s a) (path_of s a)) (sym long) (led_by (length s.records) s.records rs' (link s a) None (path_of s a) (λ j _. same_link j) (follows kept a)))
        kept.tallied kept.full

    pub rewrites : sinks (map (version_of s.records) p ++ (v ∷ map (version_of s.records) q)) ≡ true → Changed s (rewrite s i v) c (map (version_of s.records) p ++ (v ∷ map (version_of s.records) q))
    rewrites =
        changed s (rewrite s i v) c _ (path_of s) kept in' refl
        (record { few = kept.sized.few; roomy = kept.sized.roomy; headed = kept.sized.headed; lent = omega (arith, kept.sized.lent, length-set s.records i r) })
        done kept.counted
        (ap (map (version_of rs')) found.split ∙ map-append (version_of rs') p (i ∷ q) ∙ ap₂ (λ (x y : List Version). x ++ y) (same p off.0) (ap₂ (λ (x : Version) (y : List Version). x ∷ y) (ap (λ (z : Record). z.version) (get_or-set_same s.records i r blank inside)) (same q off.1)))
        (λ a l ne. same (path_of s a) (nowhere_else kept c i (omega arith) i_in a ne))
