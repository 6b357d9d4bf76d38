-- How long a list is after each call, and what stands where after a change of one cell.
use Rattle.std.proofs.Common.{◌≡◌, ℕ, ◌+◌, List, [], ◌∷◌, length, refl, arith}
use mathlib.Core.Path.{fun_ext}
use Rattle.std.proofs.lemmas.Bool.{eq-eqb, ne_eqb}
use Rattle.std.proofs.lemmas.Bool.Decides.{nat_tests}
use Rattle.words.specs.declared.version.Version.{Version}
use Rattle.tables.specs.Versions.{with_version, at_stamp}
use Rattle.tables.specs.Table.{put}

pub length_with : (v : Version) (vs : List Version) → length (with_version v vs) ≡ length vs + 1
length_with v [] = refl
length_with v (w ∷ ws) = grind (arith, nat_tests, length_with v ws)

pub length_at_stamp : (s : ℕ) (f : Version → Version) (vs : List Version) → length (at_stamp s f vs) ≡ length vs
length_at_stamp s f [] = refl
length_at_stamp s f (v ∷ vs) = grind (arith, nat_tests, length_at_stamp s f vs)

module _ {A : Type 0} (f : ℕ → A) (c : ℕ) where
  pub put_here : (x : A) → put f c x c ≡ x
  put_here x = rw (eq-eqb c c refl)

  pub put_other : (x : A) (q : ℕ) → (q ≡ c → ⊥) → put f c x q ≡ f q
  put_other x q ne = rw (ne_eqb q c ne)

  pub put_same : put f c (f c) ≡ f
  put_same = fun_ext (λ q. grind (arith, nat_tests))

  pub put_put : (x y : A) → put (put f c x) c y ≡ put f c y
  put_put x y = fun_ext (λ q. grind (arith, nat_tests))
