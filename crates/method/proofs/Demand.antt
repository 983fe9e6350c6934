-- Demand 3, whole. Assumes nothing.
use mathlib.Core.Path.{◌∙◌, subst}
use Prim.Native.Nat.{ℕ, ◌≤◌}
use native.Mathlib.Omega.{arith}
use native.Mathlib.Nat.{zero-add}
use lib.ListN.{length}
use Rattle.method.specs.Shelf.{files}
use Rattle.method.specs.Method.{State, Run, step, fresh, run}
use Rattle.method.specs.Totals.{zeros, Agreed}
use Rattle.method.specs.Promise.{SoundAt, Demand3}
use Rattle.method.proofs.Sound.{run_sound, fresh_sound, fresh_files, one_place}
use Rattle.method.proofs.Agreement.{run_agreed, zeros_agreed, totals_requests}
use Rattle.method.specs.Whole.{lifts_of}
use Rattle.method.proofs.Lifts.{run_split, sound_small}
use Rattle.method.proofs.Credits.{same_as_credit}
use Rattle.method.proofs.Runs.{run_stamp, run_replies, events_length}

pub demand3 : Demand3
demand3 p c qs set ranged =
    let one : 1 ≤ c.places = one_place c set in
    let x : Run State = run (step p c) (fresh c) qs in
    let s : SoundAt p c x.state (length qs) = subst (SoundAt p c x.state) (zero-add (length qs)) (run_sound p c one (fresh c) 0 (fresh_sound p c) qs ranged) in
    let z : Agreed (files (fresh c).shelf) zeros = subst (λ (k : ℕ). Agreed k zeros) (omega (arith, fresh_files c)) zeros_agreed in
    record {
      sound = s;
      stamp = run_stamp p c (fresh c) qs ∙ zero-add (length qs);
      small =
          sound_small p c (lifts_of (step p c) 0 (fresh c) qs) x.state (length qs) s
          (run_split p c one 0 (fresh c) 0 (fresh_sound p c) (record { taken = omega arith; left = omega arith }) qs ranged);
      credit = same_as_credit p c qs;
      agreed = run_agreed p c one (fresh c) 0 (fresh_sound p c) qs ranged zeros z;
      counted = totals_requests zeros x.replies ∙ zero-add (length x.replies) ∙ run_replies (step p c) (fresh c) qs;
      few = omega (arith, events_length p c one (fresh c) 0 (fresh_sound p c) qs ranged, fresh_files c);
    }
