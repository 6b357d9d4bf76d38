-- What the plain array holds after passes is, of each cell, the newest write.
use Rattle.std.proofs.Common.{◌≡◌, ℕ, ◌<◌, ◌≤◌, Bool, true, cond, ◌&&◌, eqb, ltb, List, [], ◌∷◌, Some, None, Option, refl, arith}
use Rattle.std.proofs.lemmas.Bool.Decides.{nat_tests}
use Rattle.rules.specs.Sets.{find}
use Rattle.law.specs.Plain.{Op, reads, writes, Pass, after_ops, after, by_stamp, placed, below}

-- the last write of a cell among operations
abbrev pub last_write : List Op → ℕ → Option ℕ
last_write [] c = None
last_write (reads d v ∷ ops) c = last_write ops c
last_write (writes d v ∷ ops) c = cond (eqb c d) (Some v) (last_write ops c)

abbrev pub over : Option ℕ → ℕ → ℕ
over None d = d
over (Some v) d = v

pub ops_leave : (ops : List Op) (a : ℕ → ℕ) (c : ℕ) → after_ops ops a c ≡ over (last_write ops c) (a c)
ops_leave [] a c = refl
ops_leave (reads d v ∷ ops) a c = ops_leave ops a c
ops_leave (writes d v ∷ ops) a c = grind (arith, ops_leave ops a c)

-- the pass stamped t
abbrev pub on : ℕ → List Pass → Option Pass
on t ps = find (λ (p : Pass). p.stamp) t ps

pub on_stamp : (t : ℕ) (ps : List Pass) (p : Pass) → on t ps ≡ Some p → p.stamp ≡ t
on_stamp t [] p h = grind arith
on_stamp t (q ∷ qs) p h = grind (arith, nat_tests, on_stamp t qs p)

-- sorting and choosing, by stamps
on_placed : (t : ℕ) (p : Pass) (qs : List Pass) → on t (placed p qs) ≡ cond (eqb p.stamp t) (Some p) (on t qs)
on_placed t p [] = refl
on_placed t p (q ∷ qs) = grind (arith, nat_tests, on_placed t p qs)

pub on_sorted : (t : ℕ) (ps : List Pass) → on t (by_stamp ps) ≡ on t ps
on_sorted t [] = refl
on_sorted t (p ∷ ps) = let a = on_placed t p (by_stamp ps) in let b = on_sorted t ps in grind arith

pub on_below : (t s : ℕ) (ps : List Pass) → on t (below s ps) ≡ cond (ltb t s) (on t ps) None
on_below t s [] = grind arith
on_below t s (p ∷ ps) = grind (arith, nat_tests, on_below t s ps)

-- stamps strictly fall along a list, from below n
abbrev pub strict : ℕ → List Pass → Bool
strict n [] = true
strict n (p ∷ ps) = ltb p.stamp n && strict p.stamp ps

pub on_strict : (n t : ℕ) (ps : List Pass) (p : Pass) → strict n ps ≡ true → on t ps ≡ Some p → t < n
on_strict n t [] p h e = grind arith
on_strict n t (q ∷ qs) p h e = grind (arith, nat_tests, on_strict q.stamp t qs p)

pub strict_wider : (m n : ℕ) (ps : List Pass) → m ≤ n → strict m ps ≡ true → strict n ps ≡ true
strict_wider m n [] le h = refl
strict_wider m n (p ∷ ps) le h = grind arith

pub strict_below : (n s : ℕ) (ps : List Pass) → strict n ps ≡ true → strict n (below s ps) ≡ true
strict_below n s [] h = refl
strict_below n s (p ∷ ps) h = grind (arith, nat_tests, strict_below p.stamp s ps, strict_wider p.stamp n (below s ps))

pub strict_placed : (n : ℕ) (p : Pass) (qs : List Pass) → p.stamp < n → on p.stamp qs ≡ None → strict n qs ≡ true → strict n (placed p qs) ≡ true
strict_placed n p [] lt new h = grind arith
strict_placed n p (q ∷ qs) lt new h = grind (arith, nat_tests, strict_placed q.stamp p qs)

-- what the pass stamped t wrote to a cell
abbrev pub wrote : Option Pass → ℕ → Option ℕ
wrote None c = None
wrote (Some p) c = last_write p.ops c

-- the array holds the newest write, or 0
pub array_none : (n : ℕ) (ps : List Pass) (c : ℕ) → strict n ps ≡ true → ((t : ℕ) → wrote (on t ps) c ≡ None) → after ps c ≡ 0
array_none n [] c h none = refl
array_none n (p ∷ ps) c h none =
    let here : last_write p.ops c ≡ None = let z = none p.stamp in grind (arith, nat_tests) in
    let rest = array_none p.stamp ps c (grind (arith, nat_tests)) earlier in
    let e = ops_leave p.ops (after ps) c in grind arith
  where
    earlier : (t : ℕ) → wrote (on t ps) c ≡ None
    earlier t = let z = none t in grind (arith, nat_tests, on_strict)

pub array_newest : (n : ℕ) (ps : List Pass) (c w v : ℕ) → strict n ps ≡ true → wrote (on w ps) c ≡ Some v → ((t u : ℕ) → wrote (on t ps) c ≡ Some u → t ≤ w) → after ps c ≡ v
array_newest n [] c w v h e new = grind arith
array_newest n (p ∷ ps) c w v h e new =
    let leave = ops_leave p.ops (after ps) c in
    let older = λ (q : last_write p.ops c ≡ None). array_newest p.stamp ps c w v rest (there q) (λ t u r. earlier t u r) in
    grind (arith, older, newer)
  where
    rest : strict p.stamp ps ≡ true
    rest = grind arith

    there : last_write p.ops c ≡ None → wrote (on w ps) c ≡ Some v
    there q = grind (arith, nat_tests)

    earlier : (t u : ℕ) → wrote (on t ps) c ≡ Some u → t ≤ w
    earlier t u r = let z = new t u in grind (arith, nat_tests, on_strict)

    newer : (x : ℕ) → last_write p.ops c ≡ Some x → x ≡ v
    newer x q = let z = new p.stamp x in grind (arith, nat_tests, on_strict)
