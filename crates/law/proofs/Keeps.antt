-- Every call keeps what holds of a model and its history.
use Rattle.std.proofs.Common.{◌≡◌, ℕ, ◌<◌, min, max, true, false, List, [], length, take, refl, arith}
use Rattle.std.proofs.lemmas.List.{take_min}
use Rattle.rules.specs.declared.entry.ReadEntry.{ReadEntry}
use Rattle.rules.specs.declared.entry.WriteEntry.{WriteEntry}
use Rattle.rules.specs.declared.call.Call.{Call}
use Rattle.rules.specs.Model.{open', sealed, Model}
use Rattle.rules.specs.Rules.{outcome}
use Rattle.rules.proofs.Ways.{every_way}
use Rattle.law.specs.Plain.{reads}
use Rattle.law.specs.History.{History, now_doing, with_op, has_read, told_with}
use Rattle.law.proofs.Locals.{local_own, local_known}
use Rattle.law.proofs.Good.{Good}
use Rattle.law.proofs.Quiet.{doing_in, pulses, syncs, seals, looks_out, closes, knows}
use Rattle.law.proofs.Opening.{begins, adds, replaces, reads_new}
use Rattle.law.proofs.Stepping.{installing, stamping, checking_read, checking_write}
use Rattle.law.proofs.Ending.{aborting, committing}
use Rattle.law.proofs.Looking.{looks_at, collecting}

module _ (m : Model) (h : History) (good : Good m h) where
  -- a read of an open pass is told as its operation, and not as a read of a look
  told : (w c v : ℕ) (rs : List ReadEntry) (ws : List WriteEntry) → w < m.workers → (m.worker w).stage ≡ open' rs ws → (m' : Model) → Good m' (now_doing h w (with_op (reads c v) (h.doing w))) → Good m' (has_read h w c v)
  told w c v rs ws within was m' g = grind arith

  pub call_keeps : (free : ℕ → ℕ) (call : Call) → Good (outcome free m call).1 (told_with call (outcome free m call).0 h)
  call_keeps free = every_way free m (λ call done. Good done.1 (told_with call done.0 h)) (λ call n d why. good) (record {
    begins = λ w units l was low. begins m h good w l units was low;
    pulses = λ w units l was low. pulses m h good w l units was low;
    syncs = λ w o l _. syncs m h good w l (max (m.worker w).clock (m.worker o).clock);
    reads_own = λ w c rs ws e l was is. told w c e.value rs ws l was m (knows m h good w l rs ws (reads c e.value) was (λ ops local. local_own ops rs ws c e is local));
    reads_known = λ w c rs ws e l was none is. told w c e.value rs ws l was m (knows m h good w l rs ws (reads c e.value) was (λ ops local. local_known ops rs ws c e none is local));
    reads_new = λ w c rs ws v l was none is. told w c v.value rs ws l was _ (reads_new m h good w l rs ws was free c v none is);
    reads_look = λ w c f v l was is. looks_at m h good w l f was free c v is;
    adds = λ w c x rs ws l was none. adds m h good w l rs ws was (record { cell = c; value = x }) none;
    replaces = λ w c x rs ws old l was is. replaces m h good w l rs ws was (record { cell = c; value = x }) old is;
    seals = λ w rs ws l was. seals m h good w l rs ws was;
    installs = λ w rs ws k e n l was is ok. installing m h good w l rs ws k was free e n is ok;
    stamps = λ w rs ws k e n l was is _. stamping m h good w l rs ws k was e is;
    checks_read = λ w rs ws k e v l was is seen same. checking_read m h good w l rs ws k was free e v is seen same;
    checks_write = λ w rs ws k e v l was is seen low. checking_write m h good w l rs ws k was free e v is seen low;
    commits = λ w rs ws k l was all. committing m h good w l rs ws k true (doing_in m h good w l (sealed rs ws k) was) all;
    aborts_open = λ w rs ws l was. aborting m h good w l rs ws 0 false (doing_in m h good w l (open' rs ws) was) [] refl;
    aborts_sealed = λ w rs ws k l was. aborting m h good w l rs ws k true (doing_in m h good w l (sealed rs ws k) was) (take (min k (length ws)) ws) (take_min k ws);
    looks = λ w l was. looks_out m h good w l was;
    closes = λ w f l was. closes m h good w l f was;
    shows = λ c v _. good;
    counts = good;
    collects = λ c v n is _. collecting m h good free c v is;
  })
