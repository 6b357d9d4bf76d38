-- Walks along a chain: what it gives one by one, and what is read off that.
use Rattle.std.proofs.Common.{◌≤◌, IfSome, ⊎_elim, slice_get, option_map, ok_or, is_some, find, eqb, ◌≡◌, ℕ, zero, suc, ◌<◌, true, List, [], ◌∷◌, ◌++◌, map, Some, None, Option, sym, refl, ap, ◌∙◌, subst, arith}
use Rattle.std.proofs.lemmas.List.{append_assoc, map-append}
use Rattle.std.proofs.lemmas.Option.{slice_get-map}
use Rattle.std.proofs.lemmas.Bool.{cases_eq}
use Rattle.std.proofs.lemmas.Bool.Decides.{nat_tests}
use Rattle.std.proofs.lemmas.Simd.{map-map}
use Rattle.std.proofs.lemmas.Iterator.{YieldsList}
use Rattle.std.proofs.lemmas.Iterator.Consumers.{YieldsList-from_first}
use Rattle.std.specs.Iterator.{YieldsFirst}
use Rattle.words.specs.Outcome.{told}
use Rattle.words.specs.declared.refusal.Refusal.TheVariants.{NoVersion}
use Rattle.words.specs.declared.version.Version.{Version}
use Rattle.tables.specs.Versions.{holds}
use Rattle.tables.specs.Table.{version_in}
use Rattle.chains.specs.declared.record.Record.{Record}
use Rattle.chains.specs.Chain.{next_of, version_of, path, good, along, stop, met, last_of}
use Rattle.chains.specs.declared.chain.Chain.{Chain}
use Rattle.chains.specs.Walk.{Found, above, low, Placed}
use Rattle.chains.proofs.Paths.{stepped, opened, at_none, none_good}

-- the last position of a front with one more
pub last_push : (p : List ℕ) (i : ℕ) (l : Option ℕ) → Some i ≡ last_of l (p ++ (i ∷ []))
last_push [] i l = refl
last_push (j ∷ p) i l = last_push p i (Some j)

-- an iterator over a chain gives the records met
pub meets : (c : Chain) → YieldsList (YieldsFirst (λ (d : Chain). met d.records.now d.first)) (λ x. x) c (met c.records.now c.first)
meets c = YieldsList-from_first (λ x. x) (λ (d : Chain). met d.records.now d.first) _ refl

-- the versions met are those along the chain
met_along : (rs : List Record) (l : Option ℕ) → map (λ (x : ℕ × Version). x.1) (met rs l) ≡ along rs l
met_along rs l = map-map _ _ (path rs l)

version_get : (vs : List Version) (n : ℕ) → told (ok_or (slice_get vs n) NoVersion) ≡ version_in vs n
version_get [] n = grind (arith, nat_tests)
version_get (v ∷ vs) zero = grind (arith, nat_tests)
version_get (v ∷ vs) (suc n) = version_get vs n ∙ grind (arith, nat_tests)

pub version_met : (rs : List Record) (l : Option ℕ) (n : ℕ) → told (ok_or (option_map (λ (x : ℕ × Version). x.1) (slice_get (met rs l) n)) NoVersion) ≡ version_in (along rs l) n
version_met rs l n =
    ap (λ (o : Option Version). told (ok_or o NoVersion)) (sym (slice_get-map (λ (x : ℕ × Version). x.1) (met rs l) n) ∙ ap (λ (vs : List Version). slice_get vs n) (met_along rs l)) ∙ version_get (along rs l) n

-- the first record met with that stamp
abbrev pub first_with : ℕ → List (ℕ × Version) → Option ℕ
first_with s xs = option_map (λ (x : ℕ × Version). x.0) (find (λ (x : ℕ × Version). eqb x.1.write s) xs)

pub first_held : (rs : List Record) (s : ℕ) (p : List ℕ) → is_some (first_with s (map (stop rs) p)) ≡ holds s (map (version_of rs) p)
first_held rs s [] = refl
first_held rs s (i ∷ p) = grind (arith, nat_tests, first_held rs s p)

pub first_found : (rs : List Record) (s : ℕ) (p : List ℕ) (o : Option ℕ) → o ≡ first_with s (map (stop rs) p) → IfSome o (λ i. Found rs p s i)
first_found rs s p None e = tt
first_found rs s [] (Some i) e = cc
first_found rs s (j ∷ p) (Some i) e =
    ⊎_elim
    (λ (here : (version_of rs j).write ≡ s). let same : j ≡ i = grind (arith, nat_tests) in subst (λ (k : ℕ). Found rs (j ∷ p) s k) same (record { front = []; back = p; split = refl; here = here; before = refl }))
    (λ ne. let f = first_found rs s p (Some i) (grind (arith, nat_tests)) in record { front = j ∷ f.front; back = f.back; split = ap (λ q. j ∷ q) f.split; here = f.here; before = grind (arith, nat_tests, f.before) })
    (cases_eq (version_of rs j).write s)

-- a link to a record on a path
link_at : (rs : List Record) (l : Option ℕ) (p : List ℕ) (i : ℕ) (q : List ℕ) → good rs l ≡ true → path rs l ≡ p ++ (i ∷ q) → (good rs (Some i) ≡ true) × (path rs (Some i) ≡ i ∷ q)
link_at rs None [] i q g e = cc (at_none rs None refl)
link_at rs None (k ∷ p) i q g e = cc (at_none rs None refl)
link_at rs (Some j) [] i q g e =
    let same : j ≡ i = cc (opened rs (Some j) j g refl) in
    subst (λ (k : ℕ). (good rs (Some k) ≡ true) × (path rs (Some k) ≡ i ∷ q)) same (g, e)
link_at rs (Some j) (k ∷ p) i q g e =
    link_at rs (next_of rs j) p i q (stepped rs j g).onward (cc (opened rs (Some j) j g refl))

-- the search for the place of s: the records of `front` are passed, all stamped above s, `newer` the last of them, and the
-- records left are those of `back`
pub record Passing (rs : List Record) (first : Option ℕ) (s : ℕ) (newer : Option ℕ) (left : List (ℕ × Version)) : Type 0 where
  pub front : List ℕ
  pub back : List ℕ
  pub split : path rs first ≡ front ++ back
  pub behind : left ≡ map (stop rs) back
  pub last : newer ≡ last_of None front
  pub high : above s (map (version_of rs) front) ≡ true

-- the next record left
next_left : (rs : List Record) (back : List ℕ) (i : ℕ) (v : Version) (left : List (ℕ × Version)) → (i, v) ∷ left ≡ map (stop rs) back → (rest : List ℕ) × (back ≡ i ∷ rest) × (v ≡ version_of rs i) × (left ≡ map (stop rs) rest)
next_left rs [] i v left e = cc
next_left rs (j ∷ rest) i v left e =
    let behind : left ≡ map (stop rs) rest = cc in
    let here : (j, version_of rs j) ≡ (i, v) = cc in
    let same : j ≡ i = ap (λ (x : ℕ × Version). x.0) here in
    (rest, ap (λ (k : ℕ). k ∷ rest) same, sym (ap (λ (x : ℕ × Version). x.1) here) ∙ ap (version_of rs) same, behind)

above_push : (s : ℕ) (vs : List Version) (v : Version) → above s vs ≡ true → s < v.write → above s (vs ++ (v ∷ [])) ≡ true
above_push s [] v h lt = grind (arith, nat_tests)
above_push s (u ∷ vs) v h lt = grind (arith, nat_tests, above_push s vs v)

module _ {rs : List Record} {first : Option ℕ} {s : ℕ} {newer : Option ℕ} {left : List (ℕ × Version)} (now' : Passing rs first s newer left) where
  module _ (i : ℕ) (v : Version) (others : List (ℕ × Version)) (is : left ≡ (i, v) ∷ others) where
    -- one record more
    pub passing_on : s < v.write → Passing rs first s (Some i) others
    passing_on lt =
        let (rest, same, version, behind) = next_left rs now'.back i v others (sym is ∙ now'.behind) in
        record {
          front = now'.front ++ (i ∷ []);
          back = rest;
          split = now'.split ∙ ap (λ (q : List ℕ). now'.front ++ q) same ∙ sym (append_assoc now'.front (i ∷ []) rest);
          behind = behind;
          last = last_push now'.front i None;
          high = ap (above s) (map-append (version_of rs) now'.front (i ∷ [])) ∙ above_push s (map (version_of rs) now'.front) (version_of rs i) now'.high (omega (arith, ap (λ (u : Version). u.write) version));
        }

    -- the place is before the next record left, or at the end
    pub placed_at : good rs first ≡ true → v.write ≤ s → Placed rs first s newer (Some i)
    placed_at g le =
        let (rest, same, version, behind) = next_left rs now'.back i v others (sym is ∙ now'.behind) in
        let here = link_at rs first now'.front i rest g (now'.split ∙ ap (λ (q : List ℕ). now'.front ++ q) same) in
        record {
          front = now'.front;
          split = now'.split ∙ ap (λ (q : List ℕ). now'.front ++ q) (same ∙ sym here.1);
          onward = here.0;
          last = now'.last;
          high = now'.high;
          rest = ap (λ (q : List ℕ). low s (map (version_of rs) q)) here.1 ∙ grind (arith, nat_tests);
        }

  pub placed_end : left ≡ [] → Placed rs first s newer None
  placed_end is =
      record {
        front = now'.front;
        split = now'.split ∙ ap (λ (q : List ℕ). now'.front ++ q) (none_left now'.back (sym now'.behind ∙ is) ∙ sym (at_none rs None refl));
        onward = none_good rs;
        last = now'.last;
        high = now'.high;
        rest = ap (λ (q : List ℕ). low s (map (version_of rs) q)) (at_none rs None refl);
      }
    where
      none_left : (back : List ℕ) → map (stop rs) back ≡ [] → back ≡ []
      none_left [] e = refl
      none_left (j ∷ back) e = cc
