-- Cutting a chain record by record: what has been passed is kept or given back, what is left is as
-- it was.
use Rattle.std.proofs.Common.{◌≡◌, ℕ, suc, ◌+◌, ◌<◌, ◌≤◌, true, false, leb, List, [], ◌∷◌, ◌++◌, map, length, drop, Some, None, Option, sym, refl, ap, ◌∙◌, subst, ap₂, arith}
use Rattle.std.proofs.lemmas.List.{append-nil, append_assoc, map-append, length-append, length-drop, length-map}
use Rattle.std.proofs.lemmas.Bool.Decides.{nat_tests}
use Rattle.words.specs.Outcome.{accepted}
use Rattle.words.specs.declared.version.Version.{Version}
use Rattle.tables.specs.Versions.{top, ordered, sinks, stays, kept as staying, cut_count}
use Rattle.tables.specs.Table.{Cut, cut_answer, put}
use Rattle.tables.proofs.Cuts.{cut_counts}
use Rattle.tables.proofs.Lengths.{put_same, put_put}
use Rattle.chains.specs.declared.record.Record.{Record}
use Rattle.chains.specs.Chain.{next_of, version_of, path, along}
use Rattle.chains.specs.Store.{Store, link, path_of, list, chained, freed, Touches, Unused}
use Rattle.chains.specs.Kept.{Kept}
use Rattle.chains.proofs.Sums.{sum_two}
use Rattle.chains.proofs.Paths.{at_none, at_some, opened}
use Rattle.chains.proofs.Changes.{own_list, Changed}
use Rattle.chains.proofs.Moves.{Split}
use Rattle.chains.proofs.Gives.{give_touches, give_unused, give_parts, same_front, same_path, same_along, gives}
use Rattle.chains.proofs.Walks.{last_push}

-- s is what the cut of cell c at the stamp has made of s₀ so far: the link `at` is next, behind `newer`
pub record Cutting (s₀ s : Store) (c stamp : ℕ) (newer at : Option ℕ) (gone : ℕ) : Type 0 where
  pub front : List ℕ
  pub parts : Split s c front newer at
  pub stay : staying stamp (list s₀ c) ≡ map (version_of s.records) front ++ staying stamp (along s.records at)
  pub lists : list s ≡ put (list s₀) c (map (version_of s.records) front ++ along s.records at)
  pub counted : s.count ≡ s₀.count + gone
  pub lost : gone + (length front + length (path s.records at)) ≡ length (list s₀ c)
  pub unused : Unused s₀ s

pub cut_start : (s : Store) → Kept s → (c stamp : ℕ) → c < s.cells → Cutting s s c stamp None (link s c) 0
cut_start s k c stamp in' =
    record {
      front = [];
      parts = record { within = in'; split = refl; onward = k.ends c; last = refl };
      stay = ap (staying stamp) (own_list s c in');
      lists = sym (ap (put (list s) c) (sym (own_list s c in')) ∙ put_same (list s) c);
      counted = omega arith;
      lost = omega (arith, ap length (own_list s c in'), length-map (path_of s c) (version_of s.records));
      unused = record { cells = refl; used = refl; heads = refl; records = refl };
    }

-- one version removed leaves the rest in order
ordered_looser : (m n : ℕ) → m ≤ n → (vs : List Version) → ordered leb m vs ≡ true → ordered leb n vs ≡ true
ordered_looser m n le [] h = refl
ordered_looser m n le (v ∷ vs) h = grind (arith, nat_tests)

ordered_without : (n : ℕ) (us : List Version) (v : Version) (vs : List Version) → ordered leb n (us ++ (v ∷ vs)) ≡ true → ordered leb n (us ++ vs) ≡ true
ordered_without n [] v vs h = grind (arith, nat_tests, ordered_looser v.write n)
ordered_without n (u ∷ us) v vs h = grind (arith, nat_tests, ordered_without u.write us v vs)

unused_then : (a b d : Store) → Unused a b → Unused b d → Unused a d
unused_then a b d f g =
    record {
      cells = g.cells ∙ f.cells;
      used = g.used ∙ f.used;
      heads = subst (λ (n : ℕ). drop n d.heads ≡ drop n b.heads) f.cells g.heads ∙ f.heads;
      records = subst (λ (n : ℕ). drop n d.records ≡ drop n b.records) f.used g.records ∙ f.records;
    }

module _ {s₀ s : Store} {c stamp : ℕ} {newer at : Option ℕ} {gone : ℕ} (kept : Kept s) (now' : Cutting s₀ s c stamp newer at gone) (i : ℕ) (is : at ≡ Some i) where
  abbrev rs : List Record
  rs = s.records

  abbrev next : Option ℕ
  next = next_of rs i

  abbrev v : Version
  v = version_of rs i

  abbrev front : List Version
  front = map (version_of rs) now'.front

  opens : path rs at ≡ i ∷ path rs next
  opens = opened rs at i now'.parts.onward is

  along_opens : along rs at ≡ v ∷ along rs next
  along_opens = ap (map (version_of rs)) opens

  -- a version that stays joins the front
  pub cut_stay : stays stamp v ≡ true → Cutting s₀ s c stamp (Some i) next gone
  cut_stay yes' =
      let pushed = now'.front ++ (i ∷ []) in
      let regroup : (tail : List Version) → front ++ (v ∷ tail) ≡ map (version_of rs) pushed ++ tail = λ tail. sym (ap (λ (l : List Version). l ++ tail) (map-append (version_of rs) now'.front (i ∷ [])) ∙ append_assoc front (v ∷ []) tail) in
      let keeps : staying stamp (along rs at) ≡ v ∷ staying stamp (along rs next) = ap (staying stamp) along_opens ∙ simp yes' in
      record {
        front = pushed;
        parts = record {
          within = now'.parts.within;
          split = now'.parts.split ∙ ap (λ (q : List ℕ). now'.front ++ q) opens ∙ sym (append_assoc now'.front (i ∷ []) (path rs next));
          onward = (at_some rs at i now'.parts.onward is).onward;
          last = last_push now'.front i None;
        };
        stay = now'.stay ∙ ap (λ (l : List Version). front ++ l) keeps ∙ regroup (staying stamp (along rs next));
        lists = now'.lists ∙ ap (λ (l : List Version). put (list s₀) c (front ++ l)) along_opens ∙ ap (put (list s₀) c) (regroup (along rs next));
        counted = now'.counted;
        lost = omega (arith, now'.lost, ap length opens, length-append now'.front (i ∷ []));
        unused = now'.unused;
      }

  -- the chain as the record to give back sees it
  parts : Split s c now'.front newer (Some i)
  parts = subst (λ (z : Option ℕ). Split s c now'.front newer z) is now'.parts

  pub touches : Touches s c newer i
  touches = give_touches kept parts

  -- the memory is as long as it was
  pub record_lent : Kept s₀ → i < length s₀.records
  record_lent k = omega (arith, k.sized.lent, kept.sized.lent, touches.lent, now'.unused.used, simp length-drop at (ap length now'.unused.records))

  -- there is room to count one more free record
  pub count_room : s.count < s.used
  count_room =
      omega (arith, sum_two (suc s.cells) (λ q. length (path_of s q)) c s.cells (omega (arith, now'.parts.within)) (omega arith) (λ z. omega (arith, now'.parts.within)), kept.full, kept.counted, ap length (now'.parts.split), ap length opens, length-append now'.front (path rs at))

  abbrev s' : Store
  s' = freed s c newer i

  -- a record given back leaves its version out of the list
  pub given : Changed s s' c (front ++ along rs next)
  given =
      let whole : front ++ (v ∷ along rs next) ≡ list s c = sym (own_list s c now'.parts.within ∙ ap (map (version_of rs)) (now'.parts.split ∙ ap (λ (q : List ℕ). now'.front ++ q) opens) ∙ map-append (version_of rs) now'.front (i ∷ path rs next)) in
      gives kept parts (ordered_without top front v (along rs next) (ap sinks whole ∙ kept.sinking c))

  -- a version that does not stay is given back
  pub cut_give : stays stamp v ≡ false → Cutting s₀ s' c stamp newer next (gone + 1)
  cut_give no' =
      let loses : staying stamp (along rs at) ≡ staying stamp (along rs next) = ap (staying stamp) along_opens ∙ simp no' in
      record {
        front = now'.front;
        parts = give_parts kept parts;
        stay = now'.stay ∙ ap₂ (λ (x y : List Version). x ++ y) (sym (same_front kept parts)) (loses ∙ ap (staying stamp) (sym (same_along kept parts)));
        lists = given.lists ∙ ap (λ (f : ℕ → List Version). put f c (front ++ along rs next)) now'.lists ∙ put_put (list s₀) c _ _ ∙ ap (put (list s₀) c) (ap₂ (λ (x y : List Version). x ++ y) (sym (same_front kept parts)) (sym (same_along kept parts)));
        counted = omega (arith, now'.counted);
        lost = omega (arith, now'.lost, ap length opens, ap length (same_path kept parts));
        unused = unused_then s₀ s s' now'.unused (give_unused kept parts);
      }

  -- and less is left of the chain, either way
  pub stay_shorter : length (path rs next) < length (path rs at)
  stay_shorter = omega (arith, ap length opens)

  pub give_shorter : length (path s'.records next) < length (path rs at)
  give_shorter = omega (arith, ap length opens, ap length (same_path kept parts))

-- all that is said of a cut
pub record CutDone (s s' : Store) (c stamp gone : ℕ) : Type 0 where
  pub answer : gone ≤ top → accepted gone ≡ cut_answer (chained s) c stamp
  pub cut : Cut (chained s) (chained s') c stamp
  pub unused : Unused s s'

pub cut_end : {s₀ s : Store} {c stamp : ℕ} {newer at : Option ℕ} {gone : ℕ} → Cutting s₀ s c stamp newer at gone → at ≡ None → CutDone s₀ s c stamp gone
cut_end {s₀} {s} {c} {stamp} {newer} {at} {gone} now' e =
    let none = at_none s.records at e in
    let bare : staying stamp (list s₀ c) ≡ map (version_of s.records) now'.front = now'.stay ∙ ap (λ (q : List ℕ). map (version_of s.records) now'.front ++ staying stamp (map (version_of s.records) q)) none ∙ append-nil _ in
    let left : list s ≡ put (list s₀) c (staying stamp (list s₀ c)) = now'.lists ∙ ap (put (list s₀) c) (ap (λ (q : List ℕ). map (version_of s.records) now'.front ++ map (version_of s.records) q) none ∙ append-nil _ ∙ sym bare) in
    let lengths = cut_counts stamp (list s₀ c) in
    let kept_length = ap length bare ∙ length-map now'.front (version_of s.records) in
    let count' : gone ≡ cut_count stamp (list s₀ c) = omega (arith, now'.lost, ap length none) in
    record {
      answer = λ fits. let in' = now'.parts.within in let same = now'.unused.cells in grind (arith, nat_tests);
      cut = record {
        only = record { cells = now'.unused.cells; versions = left };
        given = omega (arith, now'.counted);
        least = λ q ne. omega (arith, now'.counted);
        most = λ q ne. omega (arith, now'.counted);
      };
      unused = now'.unused;
    }
