-- Calls one after the other come to one run: in parts and at once. Assumes nothing.
use mathlib.Core.Path.{◌≡◌, refl, sym, ap, ◌∙◌, subst}
use mathlib.Core.Bool.{true}
use mathlib.Core.List.{List, [], ◌++◌}
use Prim.Native.Nat.{ℕ, ◌*◌, ◌≤◌}
use native.Mathlib.Omega.{arith}
use lib.ListN.{length, take}
use lib.Seq.{sets, sets-eq, take_at}
use Rattle.std.specs.Prelude.{Result, Ok, Err}
use Rattle.amounts.specs.Limits.{lift}
use Rattle.amounts.specs.Settings.{in_range}
use Rattle.amounts.specs.Requests.{Request}
use Rattle.amounts.specs.declared.settings.Settings.{Settings}
use Rattle.card.specs.Card.{Card, value_of}
use Rattle.card.proofs.Cases.{refusal_not_done}
use Rattle.method.specs.Shelf.{bytes}
use Rattle.method.specs.Method.{State, Served, Run, run, step}
use Rattle.method.specs.Totals.{totals}
use Rattle.method.specs.Events.{events}
use Rattle.method.specs.Whole.{lifts_of}
use Rattle.method.proofs.Raising.{sum_raise}
use Rattle.method.proofs.Lifts.{lifts_append}
use Rattle.method.proofs.Runs.{run_append_state, run_append_replies, run_append_events, events_length}
use Rattle.method.proofs.Agreement.{totals_append}
use Rattle.card.specs.declared.Refusal.{Refusal}
use Rattle.trace.specs.Reading.{good, read_of}
use Rattle.trace.specs.Cards.{answer_card}
use Rattle.trace.proofs.RoundTrip.{part_append, part_ranged}
use Rattle.tables.specs.Tables.{Tables, Long}
use Rattle.tables.specs.Tally.{store_of, policy_in, state_of, whole_of, totals_of}
use Rattle.tables.specs.Sound.{Sound}
use Rattle.tables.specs.Renaming.{Renamed}
use Rattle.tables.specs.declared.tally.Tally.{Tally}
use Rattle.tables.proofs.Ranges.{bounded}
use Rattle.counting.specs.Counting.{whole_tally}
use Rattle.serving.specs.Serving.{beyond_of}
use Rattle.refusing.specs.Judging.{requests_in}
use Rattle.parts.specs.Parts.{run_from, lifts_from, tally_of, events_of}
use Rattle.replay.specs.Carrying.{Carried, Runs, Answers, Carries}
use Rattle.replay.specs.Demand.{Goes, here, on, AtOnce}
use Rattle.replay.proofs.Cases.{due_here, answers, sure}
use Rattle.replay.proofs.OneAnswer.{one_shelf}
use Rattle.parts.proofs.Walking.{good_one, stands}

-- ---- a call that is done

-- the events of a run are at the front of the list that they were written into
events_taken : (es told told' : List ℕ) (n : ℕ) → n ≡ length es → length es ≤ length told → told' ≡ sets told 0 es → take n told' ≡ es
events_taken es told told' n e l w = ap (take n) (w ∙ sets-eq es told 0 (omega arith)) ∙ take_at es _ n (sym e)

module _ (a : Tally) (t : Tables) (told : List ℕ) (r : Carried) (u : Tables) (told' part : List ℕ) (unit n : ℕ) where
  -- a call that is done has run the requests of its part, and the events at the front of its list are the run's
  pub record Ran : Type 0 where
    pub range : in_range a.settings ≡ true
    pub sound : Sound a t
    pub reads : read_of (length part) a.settings.catalogue.0 part ≡ good (requests_in a part)
    pub runs : Runs (requests_in a part) a t told r u told'
    pub events : take n told' ≡ events_of (requests_in a part) (run_from a t (requests_in a part))

  pub ran : Carries a t told r u told' unit part → r.answer ≡ Ok n → Ran
  ran c e = go (due_here a t told unit part) refl (answers a t told unit part r u told' c)
    where
      go : (z : Result ℕ Refusal) → due_here a t told unit part ≡ z → Answers a t told r u told' part z → Ran
      go (Err x) q h = absurd (refusal_not_done x (ap (λ (k : Card). k.number) (sym h.answer ∙ ap answer_card e)))
      go (Ok k) q h =
          let s = sure a t told unit part k q in
          let qs : List Request = requests_in a part in
          let x : Run State = run_from a t qs in
          let p = policy_in a.settings in
          let few : length (events_of qs x) ≤ length told =
          omega (
            arith,
            s.fits.room,
            s.fits.counts,
            s.sound.files,
            sum_raise (λ r. 1) (a.lifts * lift) (λ r. refl) (state_of a t).shelf,
            events_length p (store_of a.settings) (bounded a.settings s.range).places.0 (whole_of a t) a.requests s.sound.shelf qs
                (part_ranged (length part) a.settings.catalogue.0 qs part s.fits.reads),
          ) in
          let count : n ≡ length (events_of qs x) = ap value_of (sym (ap answer_card e) ∙ h.answer) in
          record { range = s.range; sound = s.sound; reads = s.fits.reads; runs = h; events = events_taken _ told told' n count few h.written }

-- ---- any number of calls

module _ (a : Tally) (t : Tables) (b : Tally) (u : Tables) (qs : List Request) (es : List ℕ) (h : AtOnce a t b u qs es) where
  abbrev x : Run State
  x = run_from a t qs

  abbrev one : State → Request → Served State
  one = step (policy_in a.settings) (store_of a.settings)

  same_settings : b.settings ≡ a.settings
  same_settings = ap (λ (y : Tally). y.settings) h.tally

  -- a further run goes on from there, under the same settings
  module _ (ps : List Request) where
    abbrev y : Run State
    y = run one x.state ps

    further : run_from b u ps ≡ y
    further =
        ap (λ (s : Settings). run (step (policy_in s) (store_of s)) (whole_of b u) ps) same_settings ∙ ap (λ (st : State). run one st ps) h.state

    -- and so do the lifts
    further_lifts : lifts_from b u ps ≡ lifts_from a t (qs ++ ps)
    further_lifts =
        ap (λ (c : Tally). lifts_of (step (policy_in c.settings) (store_of c.settings)) c.lifts (whole_of b u) ps) h.tally
        ∙ ap (λ (st : State). lifts_of one (lifts_from a t qs) st ps) h.state ∙ sym (lifts_append one a.lifts (whole_of a t) qs ps)

    further_state : y.state ≡ (run_from a t (qs ++ ps)).state
    further_state = sym (run_append_state one (whole_of a t) qs ps)

    further_sums : totals (totals (totals_of a) x.replies) y.replies ≡ totals (totals_of a) (run_from a t (qs ++ ps)).replies
    further_sums = sym (totals_append (totals_of a) x.replies y.replies) ∙ ap (totals (totals_of a)) (sym (run_append_replies one (whole_of a t) qs ps))

    further_at_once : (told : List ℕ) (r : Carried) (w : Tables) (told' more : List ℕ) → Runs ps b u told r w told'
        → more ≡ events_of ps (run_from b u ps) → AtOnce a t r.tally w (qs ++ ps) (es ++ more)
    further_at_once told r w told' more g e =
        record {
          tally =
              g.tally ∙ (λ i. tally_of (h.tally i) (further_lifts i) (further i))
              ∙ (λ i. whole_tally a (lifts_from a t (qs ++ ps)) (further_state i) (further_sums i));
          state = g.state ∙ ap (λ (z : Run State). z.state) further ∙ further_state;
          events =
              (λ i. h.events i ++ (e ∙ ap (λ (z : Run State). events_of ps z) further) i) ∙ sym (run_append_events one (whole_of a t) qs ps);
          past =
              ap (λ (s : Settings). beyond_of s w) (sym same_settings) ∙ g.past ∙ ap (λ (s : Settings). beyond_of s u) same_settings ∙ h.past;
        }

-- what calls from sound tables come to: the run over the requests of their parts joined
pub record Comes (a : Tally) (t : Tables) (b : Tally) (u : Tables) (bytes es : List ℕ) : Type 0 where
  pub qs : List Request
  pub reads : read_of (length bytes) a.settings.catalogue.0 bytes ≡ good qs
  pub at_once : AtOnce a t b u qs es
  pub sound : Sound b u
  pub long : Long a.settings.places.0 a.settings.catalogue.0 u

pub in_parts : (a : Tally) (t : Tables) → Sound a t → Long a.settings.places.0 a.settings.catalogue.0 t
    → {b : Tally} {u : Tables} {bytes es : List ℕ} → Goes a t b u bytes es → Comes a t b u bytes es
unfolding run totals events read_of lifts_of
in_parts a t s l here =
    record {
      qs = [];
      reads = refl;
      at_once = record { tally = stands a a t a.lifts (whole_of a t) (totals_of a) refl refl refl refl s; state = refl; events = refl; past = refl };
      sound = s;
      long = l;
    }
in_parts a t s l (on b u w bytes es told told' part r unit n g c e) = next (in_parts a t s l g) (ran b u told r w told' part unit n c e)
  where
    next : Comes a t b u bytes es → Ran b u told r w told' part unit n → Comes a t r.tally w (bytes ++ part) (es ++ take n told')
    next f x =
        let same : b.settings ≡ a.settings = ap (λ (y : Tally). y.settings) f.at_once.tally in
        record {
          qs = f.qs ++ requests_in b part;
          reads =
              part_append (length bytes) (length part) (length (bytes ++ part)) a.settings.catalogue.0 f.qs (requests_in b part) bytes part f.reads
              (subst (λ (y : Settings). read_of (length part) y.catalogue.0 part ≡ good (requests_in b part)) same x.reads);
          at_once = further_at_once a t b u f.qs es f.at_once (requests_in b part) told r w told' (take n told') x.runs x.events;
          sound = x.runs.sound;
          long = subst (λ (y : Settings). Long y.places.0 y.catalogue.0 w) same x.runs.long;
        }

-- ---- in parts and at once

-- one trace, however it is cut into parts: the same tally and events; tables that are the same but for a renaming of places and the queue's order, and past the needed lengths
pub record InParts (s : Settings) (b b' : Tally) (u u' : Tables) (es es' : List ℕ) : Type 0 where
  pub tally : b ≡ b'
  pub events : es ≡ es'
  pub needed : Renamed s b.files_kept u u'
  pub past : beyond_of s u ≡ beyond_of s u'

pub carried_in_parts : (a : Tally) (t : Tables) → in_range a.settings ≡ true → Sound a t → Long a.settings.places.0 a.settings.catalogue.0 t
    → {b b' : Tally} {u u' : Tables} {bytes es es' : List ℕ} → Goes a t b u bytes es → Goes a t b' u' bytes es' → InParts a.settings b b' u u' es es'
carried_in_parts a t h s l {b} {b'} {u} {u'} f g =
    let x = in_parts a t s l f in
    let y = in_parts a t s l g in
    let qs : x.qs ≡ y.qs = good_one (sym x.reads ∙ y.reads) in
    let tally : b ≡ b' = x.at_once.tally ∙ ap (λ (q : List Request). tally_of a (lifts_from a t q) (run_from a t q)) qs ∙ sym y.at_once.tally in
    record {
      tally = tally;
      events = x.at_once.events ∙ ap (λ (q : List Request). events_of q (run_from a t q)) qs ∙ sym y.at_once.events;
      needed =
          one_shelf a.settings h b u u' (ap (λ (z : Tally). z.settings) x.at_once.tally) x.sound (subst (λ (z : Tally). Sound z u') (sym tally) y.sound) x.long y.long
          (x.at_once.state ∙ ap (λ (q : List Request). (run_from a t q).state) qs ∙ sym y.at_once.state ∙ ap (λ (z : Tally). whole_of z u') (sym tally));
      past = x.at_once.past ∙ sym y.at_once.past;
    }
