-- Lists whose stamps are below the top: every search reaches all of such a list.
use Rattle.std.proofs.Common.{◌≡◌, ℕ, ◌^◌, ◌<◌, true, List, [], ◌∷◌, Some, sym, refl, arith}
use Rattle.std.proofs.lemmas.List.{take_all}
use Rattle.std.proofs.lemmas.Bool.Decides.{nat_tests}
use Rattle.words.specs.Outcome.{refused}
use Rattle.words.specs.declared.version.Version.{Version}
use Rattle.tables.specs.Versions.{top, falls}
use Rattle.rules.specs.Search.{reach, newest, newest_below}
use Rattle.law.proofs.Under.{under}
use Rattle.law.proofs.Searches.{length_bound, newest_bounded}

abbrev pub Fit : List Version → Type 0
Fit vs = (t : ℕ) (x : Version) → under t vs ≡ Some x → t < top

first_fits : (v : Version) (vs : List Version) → Fit (v ∷ vs) → v.write < top
first_fits v vs fit = fit v.write v (grind arith)

pub fit_reached : (vs : List Version) → falls vs ≡ true → Fit vs → reach vs ≡ vs
fit_reached [] h fit = refl
fit_reached (v ∷ vs) h fit = take_all (2 ^ 64) (v ∷ vs) (let r = length_bound v.write vs h in let z = first_fits v vs fit in omega arith)

pub newest_fitting : (vs : List Version) → falls vs ≡ true → Fit vs → newest vs ≡ newest_below top vs
newest_fitting [] h fit = refl
newest_fitting (v ∷ vs) h fit = newest_bounded top (v ∷ vs) (let z = first_fits v vs fit in grind arith)

-- a search for the newest is refused as NO VERSION alone
pub newest_refuses : (s : ℕ) (vs : List Version) (n d : ℕ) → newest_below s vs ≡ refused n d → n ≡ 9
newest_refuses s [] n d e = let z : 9 ≡ n = cc in sym z
newest_refuses s (v ∷ vs) n d e = grind (arith, nat_tests, newest_refuses s vs n d)
