-- Demands 2 and 3 over the calls. Assumes nothing.
use mathlib.Core.Path.{◌≡◌, ap, ◌∙◌, subst}
use mathlib.Core.List.{List, [], ◌∷◌, ◌++◌}
use Prim.Native.Nat.{ℕ, ◌≤◌}
use native.Mathlib.Nat.{zero-add}
use lib.ListN.{length}
use Rattle.amounts.specs.Limits.{requests_most}
use Rattle.amounts.specs.Requests.{Request, AllRanged}
use Rattle.method.specs.Method.{State, Run, run, step, fresh}
use Rattle.method.specs.Events as method
use Rattle.method.specs.Totals.{totals, zeros}
use Rattle.method.specs.Whole.{lifts_of}
use Rattle.method.proofs.Runs.{run_replies}
use Rattle.method.proofs.Agreement.{totals_requests}
use Rattle.method.proofs.Demand.{demand3}
use Rattle.trace.proofs.Ranges.{settled}
use Rattle.trace.proofs.RoundTrip.{part_ranged}
use Rattle.tables.specs.Tally.{store_of, policy_in, whole_of, totals_of, fresh_tally}
use Rattle.tables.proofs.Lengths.{long_of}
use Rattle.tables.proofs.Near.{fresh_whole}
use Rattle.tables.proofs.Twins.{fresh_done, freshly_sound}
use Rattle.parts.specs.Parts.{run_from}
use Rattle.replay.specs.Demand.{so_far, Demands}
use Rattle.replay.proofs.OneAnswer.{fresh_long}
use Rattle.replay.proofs.InParts.{in_parts}

ranged_front : (n : ℕ) (ps rs : List Request) → AllRanged n (ps ++ rs) → AllRanged n ps
ranged_front n [] rs h = tt
ranged_front n (p ∷ ps) rs h = (h.0, ranged_front n ps rs h.1)

pub demands : Demands
demands s a t bytes es h =
    let n : ℕ = s.catalogue.0 in
    let start = fresh_done s h.old h.answer h.new h.starts h.range h.enough in
    let enough = fresh_long s h.old h.answer h.new h.starts h.range h.enough in
    let sound = (freshly_sound s h.old h.answer h.new h.starts h.range h.enough).1 in
    let x = in_parts (fresh_tally s) h.new sound (long_of s.places.0 n h.new enough) h.goes in
    let first : whole_of (fresh_tally s) h.new ≡ fresh (store_of s) = ap (whole_of (fresh_tally s)) start.1 ∙ fresh_whole s h.old in
    let same : run_from (fresh_tally s) h.new x.qs ≡ so_far s x.qs = ap (λ (st : State). run (step (policy_in s) (store_of s)) st x.qs) first in
    let counts : totals_of a ≡ totals zeros (so_far s x.qs).replies = ap totals_of x.at_once.tally ∙ ap (λ (y : Run State). totals zeros y.replies) same in
    let number : (totals_of a).requests ≡ length x.qs =
    ap (λ z. z.requests) counts ∙ totals_requests zeros (so_far s x.qs).replies
    ∙ zero-add (length (so_far s x.qs).replies) ∙ run_replies (step (policy_in s) (store_of s)) (fresh (store_of s)) x.qs in
    let y = settled s h.range in
    record {
      qs = x.qs;
      reads = x.reads;
      settings = ap (λ z. z.settings) x.at_once.tally;
      state = x.at_once.state ∙ ap (λ (y : Run State). y.state) same;
      lifts = ap (λ z. z.lifts) x.at_once.tally ∙ ap (λ (st : State). lifts_of (step (policy_in s) (store_of s)) 0 st x.qs) first;
      counts = counts;
      events = x.at_once.events ∙ ap (λ (y : Run State). method.events x.qs y.replies) same;
      few = subst (λ (k : ℕ). k ≤ requests_most) number x.sound.few;
      every =
          λ ps rs e. demand3 (policy_in s) (store_of s) ps (record { capacity = y.capacity; places = y.places; catalogue = y.catalogue })
          (ranged_front n ps rs (subst (AllRanged n) e (part_ranged (length bytes) n x.qs bytes x.reads)));
    }
