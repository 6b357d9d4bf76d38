-- What one call makes of n cells of 8 places each.
use Rattle.std.proofs.Common.{◌≡◌, ℕ, ◌<◌, ◌≤◌, List, length, refl, ap, arith}
use Rattle.std.proofs.lemmas.Bool.Decides.{nat_tests}
use Rattle.words.specs.declared.version.Version.{Version}
use Rattle.words.specs.Version.{new_version}
use Rattle.tables.specs.Versions.{with_version, at_stamp, kept}
use Rattle.tables.specs.Table.{Table, Cleared, cleared, Inserted, Altered, Cut, put}
use Rattle.tables.proofs.Cuts.{cut_counts}
use Rattle.tables.proofs.Lengths.{length_with, length_at_stamp}
use Rattle.rows.specs.Places.{eight_places}

module _ (n : ℕ) (lists : ℕ → List Version) where
  -- cells that mean what cleared ones mean, after any others
  pub eight_cleared : (old : ℕ → List Version) → eight_places n lists ≡ eight_places n (cleared n) → Cleared (eight_places n old) (eight_places n lists)
  eight_cleared old e =
      record {
        cells = refl;
        versions = ap (λ (t : Table). t.versions) e;
        free = λ c l. grind (arith, nat_tests, ap (λ (t : Table). t.free c) e);
      }

  module _ (c : ℕ) where
    pub eight_inserted : (s x : ℕ) → length (lists c) < 8 → Inserted (eight_places n lists) (eight_places n (put lists c (with_version (new_version s x) (lists c)))) c s x
    eight_inserted s x room =
        record {
          only = record { cells = refl; versions = refl };
          taken = grind (arith, nat_tests, length_with (new_version s x) (lists c));
          least = λ q ne. grind (arith, nat_tests);
          most = λ q ne. grind (arith, nat_tests);
        }

    pub eight_cut : (s : ℕ) → length (lists c) ≤ 8 → Cut (eight_places n lists) (eight_places n (put lists c (kept s (lists c)))) c s
    eight_cut s short =
        record {
          only = record { cells = refl; versions = refl };
          given = grind (arith, nat_tests, cut_counts s (lists c));
          least = λ q ne. grind (arith, nat_tests);
          most = λ q ne. grind (arith, nat_tests);
        }

    pub eight_altered : (s : ℕ) (f : Version → Version) → Altered (eight_places n lists) (eight_places n (put lists c (at_stamp s f (lists c)))) c s f
    eight_altered s f =
        record {
          only = record { cells = refl; versions = refl };
          free = λ q. grind (arith, nat_tests, length_at_stamp s f (lists c));
        }
