-- Serving a part: one turn, and the whole. Assumes nothing.
use mathlib.Core.Path.{◌≡◌, refl, sym, ap, ◌∙◌, subst}
use mathlib.Core.Bool.{true}
use mathlib.Core.List.{List, [], ◌∷◌, ◌++◌}
use Prim.Native.Nat.{ℕ, suc, ◌+◌, ◌-◌, ◌*◌, ◌≤◌, ◌<◌}
use native.Mathlib.Omega.{arith}
use lib.ListN.{length, set, drop, length-append, length-map}
use lib.Seq.{sets, length-sets}
use Rattle.amounts.specs.Limits.{requests_most, lift, catalogue_most, is_catalogue, is_size}
use Rattle.amounts.specs.Settings.{in_range}
use Rattle.amounts.specs.Requests.{Request, Ranged}
use Rattle.amounts.specs.declared.settings.Settings.{Settings}
use Rattle.amounts.proofs.Tests.{in_one_to}
use Rattle.method.specs.Shelf.{files, bytes}
use Rattle.method.specs.Method.{State, Served, Run, run, step}
use Rattle.method.specs.Events.{entries, events}
use Rattle.method.specs.Totals.{Totals, totals, on_admitted, copies}
use Rattle.method.specs.Whole.{raise, lifts_of}
use Rattle.method.proofs.Raising.{sum_raise}
use Rattle.method.proofs.Runs.{at_most_one, length_entries}
use Rattle.method.proofs.Counts.{step_counts}
use Rattle.trace.specs.Reading.{good, read_of}
use Rattle.trace.specs.Steps.{Requested, RequestAt, First}
use Rattle.trace.specs.declared.reader.Taken.{Taken}
use Rattle.trace.proofs.RoundTrip.{part_ranged}
use Rattle.tables.specs.Tables.{Tables}
use Rattle.tables.specs.Tally.{store_of, policy_in, state_of, whole_of, totals_of}
use Rattle.tables.specs.Sound.{Sound}
use Rattle.tables.specs.declared.tally.Tally.{Tally}
use Rattle.tables.proofs.Ranges.{Bounded, bounded}
use Rattle.tables.proofs.Shelves.{shelf_length}
use Rattle.counting.specs.Counting.{whole_tally}
use Rattle.serving.specs.Serving.{Running, whole_step, Servable, Stepped, asked, beyond_of}
use Rattle.refusing.specs.Judging.{requests_in}
use Rattle.parts.specs.Parts.{run_from, lifts_from, events_of, PartServed}
use Rattle.parts.specs.declared.Ended.{Ended}
use Rattle.serving.specs.declared.step.Step.{Step}
use Rattle.serving.proofs.Writing.{sets_append}

-- the loop's head: what is left of the run makes of what stands now what the whole makes of what stood at entry
pub record Walk (a : Tally) (part : List ℕ) (count : ℕ) (t₀ : Tables) (told₀ : List ℕ) (t : Tables) (entry free told : List ℕ) (b : Tally) (at e i : ℕ) : Type 0 where
  pub rest : List Request
  pub left : read_of (length part) a.settings.catalogue.0 (drop at part) ≡ good rest
  pub number : i + length rest ≡ count
  pub settings : b.settings ≡ a.settings
  pub running : Running b t entry free
  pub few : b.requests + length rest ≤ requests_most
  pub room : e + 2 * length rest + b.files_kept ≤ length told
  pub state : (run_from b t rest).state ≡ (run_from a t₀ (requests_in a part)).state
  pub sums : totals (totals_of b) (run_from b t rest).replies ≡ totals (totals_of a) (run_from a t₀ (requests_in a part)).replies
  pub written : sets told e (events_of rest (run_from b t rest)) ≡ sets told₀ 0 (events_of (requests_in a part) (run_from a t₀ (requests_in a part)))
  pub counts : e + length (events_of rest (run_from b t rest)) ≡ length (events_of (requests_in a part) (run_from a t₀ (requests_in a part)))
  pub lifts : lifts_from b t rest ≡ lifts_from a t₀ (requests_in a part)
  pub past : beyond_of a.settings t ≡ beyond_of a.settings t₀

pub good_one : {l m : List Request} → good l ≡ good m → l ≡ m
good_one e = cc

-- ---- one request of the run

module _ (b : Tally) (t : Tables) (entry free told : List ℕ) (e : ℕ) (q : Request) (l : List Request) (h : Servable b q t entry free told e)
    (r : Step) (u : Tables) (entry' free' told' : List ℕ) (s : Stepped b q t told e r u entry' free' told') where
  abbrev x : Served State
  x = whole_step b t q

  same_settings : r.tally.settings ≡ b.settings
  same_settings = ap (λ (y : Tally). y.settings) s.tally

  -- the rest of the run goes on from what stands now
  rest_run : run_from r.tally u l ≡ run (step (policy_in b.settings) (store_of b.settings)) x.state l
  rest_run = λ i. run (step (policy_in (same_settings i)) (store_of (same_settings i))) (s.state i) l

  more_lifts : lifts_from r.tally u l ≡ lifts_from b t (q ∷ l)
  unfolding lifts_of
  more_lifts = λ i. lifts_of (step (policy_in (same_settings i)) (store_of (same_settings i))) (s.tally i).lifts (s.state i) l

  more_state : (run_from r.tally u l).state ≡ (run_from b t (q ∷ l)).state
  unfolding run
  more_state = ap (λ (y : Run State). y.state) rest_run

  more_sums : totals (totals_of r.tally) (run_from r.tally u l).replies ≡ totals (totals_of b) (run_from b t (q ∷ l)).replies
  unfolding run totals
  more_sums = λ i. totals (totals_of (s.tally i)) (rest_run i).replies

  more_events : events_of (q ∷ l) (run_from b t (q ∷ l)) ≡ entries q x.reply ++ events_of l (run_from r.tally u l)
  unfolding run events
  more_events = ap (λ (y : Run State). entries q x.reply ++ events l y.replies) (sym rest_run)

  more_written : sets told' r.events (events_of l (run_from r.tally u l)) ≡ sets told e (events_of (q ∷ l) (run_from b t (q ∷ l)))
  more_written =
      (λ i. sets (s.written i) (s.count i) (events_of l (run_from r.tally u l)))
      ∙ sym (sets_append told e (entries q x.reply) (events_of l (run_from r.tally u l))) ∙ ap (sets told e) (sym more_events)

  more_counts : r.events + length (events_of l (run_from r.tally u l)) ≡ e + length (events_of (q ∷ l) (run_from b t (q ∷ l)))
  more_counts =
      omega (arith, s.count, ap (λ (es : List ℕ). length es) more_events, length-append (entries q x.reply) (events_of l (run_from r.tally u l)))

  more_room : e + 2 * suc (length l) + b.files_kept ≤ length told → r.events + 2 * length l + r.tally.files_kept ≤ length told'
  more_room room =
      let k : copies x.reply.dropped + length x.reply.evicted + files x.state.shelf ≡ files (whole_of b t).shelf + on_admitted x.reply.outcome 1 =
      step_counts (policy_in b.settings) (store_of b.settings) (whole_of b t) q
      (omega (arith, length-map (state_of b t).shelf (raise (b.lifts * lift)), shelf_length b.settings.catalogue.0 t h.running.long.place, h.ranged.file)) in
      let n : r.tally.files_kept ≡ files x.state.shelf = ap (λ (y : Tally). y.files_kept) s.tally in
      let w : length told' ≡ length told = ap (λ (es : List ℕ). length es) s.written ∙ length-sets told e (entries q x.reply) in
      omega (arith, s.count, length_entries q x.reply, at_most_one x.reply.outcome, h.running.sound.files, sum_raise (λ r. 1) (b.lifts * lift) (λ r. refl) (state_of b t).shelf)

  more_requests : r.tally.requests ≡ b.requests + 1
  more_requests = ap (λ (y : Tally). y.requests) s.tally

-- ---- a turn of the loop

-- the catalogue is in range, as the run's settings are
walk_catalogue : {a : Tally} {part : List ℕ} {count : ℕ} {t₀ : Tables} {told₀ : List ℕ} {t : Tables} {entry free told : List ℕ} {b : Tally} {at e i : ℕ}
    → Walk a part count t₀ told₀ t entry free told b at e i → is_catalogue a.settings.catalogue.0 ≡ true
walk_catalogue {a} w =
    let c : Bounded a.settings = bounded a.settings (subst (λ (x : Settings). in_range x ≡ true) w.settings w.running.ranged) in
    in_one_to catalogue_most a.settings.catalogue.0 c.catalogue.0 c.catalogue.1

pub walk_there : (a : Tally) (part : List ℕ) (count : ℕ) (t₀ : Tables) (told₀ : List ℕ) (t : Tables) (entry free told : List ℕ) (b : Tally) (at e i : ℕ)
    → Walk a part count t₀ told₀ t entry free told b at e i → i < count → Requested part at
walk_there a part count t₀ told₀ t entry free told b at e i w more = go w.rest w.left w.number
  where
    go : (r : List Request) → read_of (length part) a.settings.catalogue.0 (drop at part) ≡ good r → i + length r ≡ count → Requested part at
    go [] g n = absurd (omega arith)
    go (q ∷ l) g n = record { n = length part; catalogue = a.settings.catalogue.0; catalogue_in = walk_catalogue w; q = q; after = l; reads = g }

module _ (a : Tally) (part : List ℕ) (count : ℕ) (t₀ : Tables) (told₀ : List ℕ) (t : Tables) (entry free told : List ℕ) (b : Tally) (at e i : ℕ)
    (w : Walk a part count t₀ told₀ t entry free told b at e i) (more : i < count) (y : Taken) (z : RequestAt part at y) where
  -- the next request, and those after it
  record Turn : Type 0 where
    q : Request
    l : List Request
    rest : w.rest ≡ q ∷ l
    first : First part (length part) a.settings.catalogue.0 y q l
    ranged : Ranged a.settings.catalogue.0 q

  turn : Turn
  turn = go w.rest refl w.left
    where
      go : (r : List Request) → w.rest ≡ r → read_of (length part) a.settings.catalogue.0 (drop at part) ≡ good r → Turn
      go [] n g = absurd (omega (arith, w.number, ap (λ (x : List Request). length x) n))
      go (q ∷ l) n g =
          record {
            q = q;
            l = l;
            rest = n;
            first = z.first (length part) a.settings.catalogue.0 q l (walk_catalogue w) g;
            ranged = (part_ranged (length part) a.settings.catalogue.0 (q ∷ l) (drop at part) g).0;
          }

  asked_is : asked y.request.file y.request.size y.request.cost ≡ turn.q
  asked_is = let f = turn.first in λ i. record { file = f.file i; size = f.size i; cost = f.cost i }

  length_rest : length w.rest ≡ suc (length turn.l)
  length_rest = ap (λ (x : List Request). length x) turn.rest

  servable_q : Servable b turn.q t entry free told e
  servable_q =
      record {
        running = w.running;
        few = omega (arith, w.few, length_rest);
        ranged = subst (λ (x : Settings). Ranged x.catalogue.0 turn.q) (sym w.settings) turn.ranged;
        room = omega (arith, w.room, length_rest);
      }

  -- its size is in range
  pub walk_size : is_size y.request.size ≡ true
  walk_size = subst (λ (n : ℕ). is_size n ≡ true) (sym turn.first.size) turn.ranged.size

  pub walk_servable : (f sz co : ℕ) → f ≡ y.request.file → sz ≡ y.request.size → co ≡ y.request.cost → Servable b (asked f sz co) t entry free told e
  walk_servable f sz co ef es ec =
      subst (λ (x : Request). Servable b x t entry free told e) (sym ((λ i. asked (ef i) (es i) (ec i)) ∙ asked_is)) servable_q

  pub walk_more : (f sz co : ℕ) → f ≡ y.request.file → sz ≡ y.request.size → co ≡ y.request.cost → (r : Step) (u : Tables) (entry' free' told' : List ℕ) → Stepped b (asked f sz co) t told e r u entry' free' told'
      → Walk a part count t₀ told₀ u entry' free' told' r.tally y.next r.events (i + 1)
  walk_more f sz co ef es ec r u entry' free' told' s₀ =
      let q : Request = turn.q in
      let l : List Request = turn.l in
      let s : Stepped b q t told e r u entry' free' told' = subst (λ (x : Request). Stepped b x t told e r u entry' free' told') ((λ i. asked (ef i) (es i) (ec i)) ∙ asked_is) s₀ in
      let at_rest : run_from b t w.rest ≡ run_from b t (q ∷ l) = ap (run_from b t) turn.rest in
      record {
        rest = l;
        left = turn.first.rest;
        number = omega (arith, w.number, length_rest);
        settings = same_settings b t entry free told e q l servable_q r u entry' free' told' s ∙ w.settings;
        running = s.running;
        few = omega (arith, w.few, length_rest, more_requests b t entry free told e q l servable_q r u entry' free' told' s);
        room = more_room b t entry free told e q l servable_q r u entry' free' told' s (omega (arith, w.room, length_rest));
        state = more_state b t entry free told e q l servable_q r u entry' free' told' s ∙ ap (λ (x : Run State). x.state) (sym at_rest) ∙ w.state;
        sums = more_sums b t entry free told e q l servable_q r u entry' free' told' s ∙ ap (λ (x : Run State). totals (totals_of b) x.replies) (sym at_rest) ∙ w.sums;
        written =
            more_written b t entry free told e q l servable_q r u entry' free' told' s
            ∙ (λ i. sets told e (events_of (sym turn.rest i) (sym at_rest i))) ∙ w.written;
        counts =
            more_counts b t entry free told e q l servable_q r u entry' free' told' s
            ∙ (λ i. e + length (events_of (sym turn.rest i) (sym at_rest i))) ∙ w.counts;
        lifts = more_lifts b t entry free told e q l servable_q r u entry' free' told' s ∙ ap (lifts_from b t) (sym turn.rest) ∙ w.lifts;
        past = subst (λ (x : Settings). beyond_of x u ≡ beyond_of x t) w.settings s.past ∙ w.past;
      }

-- ---- the end

-- the tally of sound tables, by the whole state, the lifts and the totals that both stand for
pub stands : (a b : Tally) (t : Tables) (k : ℕ) (st : State) (y : Totals) → b.settings ≡ a.settings → b.lifts ≡ k → whole_of b t ≡ st → totals_of b ≡ y → Sound b t → b ≡ whole_tally a k st y
stands a b t k st y set lifts is sums sound =
    let left : b.inflation.0 ≡ st.inflation - k * lift = omega (arith, lifts, ap (λ (x : State). x.inflation) is) in
    let used : b.bytes_kept.0 ≡ bytes st.shelf =
    sym sound.bytes ∙ sym (sum_raise (λ r. r.size) (b.lifts * lift) (λ r. refl) (state_of b t).shelf) ∙ ap (λ (x : State). bytes x.shelf) is in
    let many : b.files_kept ≡ files st.shelf =
    sym sound.files ∙ sym (sum_raise (λ r. 1) (b.lifts * lift) (λ r. refl) (state_of b t).shelf) ∙ ap (λ (x : State). files x.shelf) is in
    λ j. record {
      settings = set j;
      inflation = record { 0 = left j };
      bytes_kept = record { 0 = used j };
      files_kept = many j;
      requests = (sums j).requests;
      hits = (sums j).hits;
      admitted = (sums j).admitted;
      passed = (sums j).passed;
      evicted = (sums j).evicted;
      bytes_asked = record { 0 = (sums j).bytes };
      hit_bytes = record { 0 = (sums j).hit_bytes };
      cost_asked = record { 0 = (sums j).cost };
      hit_cost = record { 0 = (sums j).hit_cost };
      dropped = (sums j).dropped;
      lifts = lifts j;
    }

pub walk_end : (a : Tally) (part : List ℕ) (count : ℕ) (t₀ : Tables) (told₀ : List ℕ) (t : Tables) (entry free told : List ℕ) (b : Tally) (at e i : ℕ)
    → Walk a part count t₀ told₀ t entry free told b at e i → count ≤ i → (r : Ended) → r.tally ≡ b → r.events ≡ e → PartServed (requests_in a part) a t₀ told₀ r t entry free told
unfolding run totals events lifts_of
walk_end a part count t₀ told₀ t entry free told b at e i w end r is_b is-e =
    let none : w.rest ≡ [] = empty w.rest (omega (arith, w.number)) in
    let qs : List Request = requests_in a part in
    let st : whole_of b t ≡ (run_from a t₀ qs).state = ap (λ (l : List Request). (run_from b t l).state) (sym none) ∙ w.state in
    let sums : totals_of b ≡ totals (totals_of a) (run_from a t₀ qs).replies =
    ap (λ (l : List Request). totals (totals_of b) (run_from b t l).replies) (sym none) ∙ w.sums in
    let evs : told ≡ sets told₀ 0 (events_of qs (run_from a t₀ qs)) =
    ap (λ (l : List Request). sets told e (events_of l (run_from b t l))) (sym none) ∙ w.written in
    let cnt : e + 0 ≡ length (events_of qs (run_from a t₀ qs)) =
    ap (λ (l : List Request). e + length (events_of l (run_from b t l))) (sym none) ∙ w.counts in
    let lifts : b.lifts ≡ lifts_from a t₀ qs = ap (lifts_from b t) (sym none) ∙ w.lifts in
    record {
      tally = is_b ∙ stands a b t (lifts_from a t₀ qs) (run_from a t₀ qs).state _ w.settings lifts st sums w.running.sound;
      state = ap (λ (x : Tally). whole_of x t) is_b ∙ st;
      written = evs;
      count = is-e ∙ omega (arith, cnt);
      running = subst (λ (x : Tally). Running x t entry free) (sym is_b) w.running;
      past = w.past;
    }
  where
    empty : (l : List Request) → length l ≤ 0 → l ≡ []
    empty [] h = refl
    empty (q ∷ l) h = absurd (omega arith)
