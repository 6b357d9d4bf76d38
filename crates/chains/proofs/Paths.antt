-- Paths along links: a path is what the links say, and what a write to one record makes of it.
use Rattle.std.proofs.Common.{◌≡◌, ℕ, zero, suc, ◌<◌, ◌≤◌, true, ltb, List, [], ◌∷◌, ◌++◌, map, length, set, Some, None, Option, sym, refl, ap, ◌∙◌, subst, ap₂, arith}
use Rattle.std.proofs.lemmas.List.{get_or-set_same, get_or-set_other}
use Rattle.std.proofs.lemmas.Bool.{and_parts, and_from, ltb-true, lt-ltb, false≢true}
use Rattle.std.proofs.lemmas.Bool.Decides.{nat_tests}
use Rattle.words.specs.declared.version.Version.{Version}
use Rattle.chains.specs.declared.record.Record.{Record}
use Rattle.chains.specs.Chain.{blank, next_of, version_of, chain, ended, path, good, last_of}
use Rattle.chains.specs.Kept.{count}
use Rattle.chains.proofs.Sums.{count_first}

-- the links from l on go through the positions p, all below u, and come to the link m
abbrev pub Led : ℕ → List Record → Option ℕ → List ℕ → Option ℕ → Type 0
Led u rs l [] m = l ≡ m
Led u rs l (j ∷ p) m = (l ≡ Some j) × (j < u) × Led u rs (next_of rs j) p m

-- they go through p and end
abbrev pub Linked : ℕ → List Record → Option ℕ → List ℕ → Type 0
Linked u rs l p = Led u rs l p None

pub linked : (u n : ℕ) (rs : List Record) (l : Option ℕ) → ended u n rs l ≡ true → Linked u rs l (chain n rs l)
linked u zero rs None h = refl
linked u zero rs (Some i) h = absurd (false≢true h)
linked u (suc n) rs None h = refl
linked u (suc n) rs (Some i) h =
    let parts = and_parts (ltb i u) (ended u n rs (next_of rs i)) h in
    (refl, ltb-true i u parts.0, linked u n rs (next_of rs i) parts.1)

-- the end of a path
no_chain : (u n : ℕ) (rs : List Record) → (ended u n rs None ≡ true) × (chain n rs None ≡ [])
no_chain u zero rs = (refl, refl)
no_chain u (suc n) rs = (refl, refl)

pub linked_ends : (u n : ℕ) (rs : List Record) (l : Option ℕ) (p : List ℕ) → Linked u rs l p → length p ≤ n → (ended u n rs l ≡ true) × (chain n rs l ≡ p)
linked_ends u n rs l [] h le = subst (λ (z : Option ℕ). (ended u n rs z ≡ true) × (chain n rs z ≡ [])) (sym h) (no_chain u n rs)
linked_ends u zero rs l (j ∷ p) h le = absurd (omega arith)
linked_ends u (suc n) rs l (j ∷ p) h le =
    let rest = linked_ends u n rs (next_of rs j) p h.2 (omega arith) in
    subst (λ (z : Option ℕ). (ended u (suc n) rs z ≡ true) × (chain (suc n) rs z ≡ j ∷ p)) (sym h.0)
    (and_from _ _ (lt-ltb j u h.1) rest.0, ap (λ q. j ∷ q) rest.1)

chain_short : (n : ℕ) (rs : List Record) (l : Option ℕ) → length (chain n rs l) ≤ n
chain_short zero rs l = omega arith
chain_short (suc n) rs None = omega arith
chain_short (suc n) rs (Some i) = omega (arith, chain_short n rs (next_of rs i))

pub path_short : (rs : List Record) (l : Option ℕ) → length (path rs l) ≤ length rs
path_short rs l = chain_short (length rs) rs l

-- one step along a path
pub record Stepped (rs : List Record) (i : ℕ) : Type 0 where
  pub within : i < length rs
  pub opens : path rs (Some i) ≡ i ∷ path rs (next_of rs i)
  pub onward : good rs (next_of rs i) ≡ true

pub stepped : (rs : List Record) (i : ℕ) → good rs (Some i) ≡ true → Stepped rs i
stepped rs i h = go (length rs) refl
  where
    go : (n : ℕ) → length rs ≡ n → Stepped rs i
    go zero e = absurd (false≢true (subst (λ (m : ℕ). ended (length rs) m rs (Some i) ≡ true) e h))
    go (suc n) e =
        let g = subst (λ (m : ℕ). ended (length rs) m rs (Some i) ≡ true) e h in
        let parts = and_parts (ltb i (length rs)) (ended (length rs) n rs (next_of rs i)) g in
        let rest = linked_ends (length rs) (length rs) rs (next_of rs i) (chain n rs (next_of rs i)) (linked (length rs) n rs (next_of rs i) parts.1) (omega (arith, chain_short n rs (next_of rs i))) in
        record {
          within = ltb-true i (length rs) parts.0;
          opens = ap (λ (m : ℕ). chain m rs (Some i)) e ∙ ap (λ q. i ∷ q) (sym rest.1);
          onward = rest.0;
        }

-- a step, where the link is known to lead to i
pub at_some : (rs : List Record) (l : Option ℕ) (i : ℕ) → good rs l ≡ true → l ≡ Some i → Stepped rs i
at_some rs l i g e = stepped rs i (subst (λ (z : Option ℕ). good rs z ≡ true) e g)

-- the path at the link, opened
pub opened : (rs : List Record) (l : Option ℕ) (i : ℕ) → good rs l ≡ true → l ≡ Some i → path rs l ≡ i ∷ path rs (next_of rs i)
opened rs l i g e = ap (path rs) e ∙ (at_some rs l i g e).opens

pub at_none : (rs : List Record) (l : Option ℕ) → l ≡ None → path rs l ≡ []
at_none rs l e = ap (path rs) e ∙ (no_chain (length rs) (length rs) rs).1

pub none_good : (rs : List Record) → good rs None ≡ true
none_good rs = (no_chain (length rs) (length rs) rs).0

pub led_append : (u : ℕ) (rs : List Record) (l m n : Option ℕ) (p q : List ℕ) → Led u rs l p m → Led u rs m q n → Led u rs l (p ++ q) n
led_append u rs l m n [] q h k = subst (λ (z : Option ℕ). Led u rs z q n) (sym h) k
led_append u rs l m n (j ∷ p) q h k = (h.0, h.1, led_append u rs (next_of rs j) m n p q h.2 k)

-- a path that ends in q comes to q's first link
pub led_front : (u : ℕ) (rs : List Record) (l m : Option ℕ) (p q : List ℕ) → Linked u rs l (p ++ q) → Linked u rs m q → Led u rs l p m
led_front u rs l m [] [] h k = h ∙ sym k
led_front u rs l m [] (j ∷ q) h k = h.0 ∙ sym k.0
led_front u rs l m (j ∷ p) q h k = (h.0, h.1, led_front u rs (next_of rs j) m p q h.2 k)

-- the last record of a path stands on it
pub last_counted : (i : ℕ) (p : List ℕ) (k : ℕ) → last_of (Some i) p ≡ Some k → 1 ≤ count k (i ∷ p)
last_counted i [] k e = let z : i ≡ k = cc in grind (arith, nat_tests)
last_counted i (j ∷ p) k e = omega (arith, last_counted j p k e)

-- the links at its records make a path, and their versions those along it
pub led_by : (u : ℕ) (rs rs' : List Record) (l m : Option ℕ) (p : List ℕ) → ((i : ℕ) → 1 ≤ count i p → next_of rs' i ≡ next_of rs i) → Led u rs l p m → Led u rs' l p m
led_by u rs rs' l m [] same h = h
led_by u rs rs' l m (j ∷ p) same h =
    (h.0, h.1, subst (λ (z : Option ℕ). Led u rs' z p m) (sym (same j (omega (arith, count_first j p)))) (led_by u rs rs' (next_of rs j) m p (λ i on. same i (omega arith)) h.2))

pub versions_by : (rs rs' : List Record) (p : List ℕ) → ((i : ℕ) → 1 ≤ count i p → version_of rs' i ≡ version_of rs i) → map (version_of rs') p ≡ map (version_of rs) p
versions_by rs rs' [] same = refl
versions_by rs rs' (j ∷ p) same =
    ap₂ (λ (v : Version) (vs : List Version). v ∷ vs) (same j (omega (arith, count_first j p))) (versions_by rs rs' p (λ i on. same i (omega arith)))

-- a record not on the path is none of its
pub not_on : (p : List ℕ) (k i : ℕ) → count k p ≡ 0 → 1 ≤ count i p → i ≡ k → ⊥
not_on p k i off on e = omega (arith, ap (λ (j : ℕ). count j p) e)

-- the last record of a path led elsewhere
pub relinked : (u : ℕ) (rs : List Record) (l m : Option ℕ) (j : ℕ) (p : List ℕ) (k : ℕ) (r : Record) → last_of (Some j) p ≡ Some k → k < length rs → count k (j ∷ p) ≡ 1 → Led u rs l (j ∷ p) m → Led u (set rs k r) l (j ∷ p) r.next
relinked u rs l m j [] k r last in' once h =
    let e : j ≡ k = cc in
    (h.0, h.1, ap (next_of (set rs k r)) e ∙ ap (λ (x : Record). x.next) (get_or-set_same rs k r blank in'))
relinked u rs l m j (i ∷ p) k r last in' once h =
    let has = last_counted i p k last in
    let ne : j ≡ k → ⊥ = grind (arith, nat_tests) in
    let rest : count k (i ∷ p) ≡ 1 = grind (arith, nat_tests) in
    (h.0, h.1, subst (λ (z : Option ℕ). Led u (set rs k r) z (i ∷ p) r.next) (sym (ap (λ (x : Record). x.next) (get_or-set_other rs k j r blank ne))) (relinked u rs (next_of rs j) m i p k r last in' rest h.2))
