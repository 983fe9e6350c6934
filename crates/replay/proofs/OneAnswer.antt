-- What a run carried on promises admits one answer, and a fresh start over any old tables gives the same run. Assumes nothing.
use mathlib.Core.Path.{◌≡◌, refl, sym, ap, ◌∙◌, subst}
use mathlib.Core.Bool.{Bool, true}
use mathlib.Core.List.{List, [], ◌∷◌}
use Prim.Native.Nat.{ℕ, ◌*◌}
use lib.ListN.{length}
use lib.Seq.{sets}
use Rattle.std.specs.Prelude.{Result, Ok, Err}
use Rattle.amounts.specs.Limits.{no_place, lift}
use Rattle.amounts.specs.Settings.{in_range}
use Rattle.amounts.specs.Requests.{Request}
use Rattle.amounts.specs.declared.settings.Settings.{Settings}
use Rattle.card.specs.Card.{done}
use Rattle.method.specs.Method.{State, Run, run, step}
use Rattle.method.specs.Whole.{whole, lifts_of}
use Rattle.card.specs.declared.Refusal.{Refusal}
use Rattle.trace.proofs.OneAnswer.{answer_one}
use Rattle.tables.specs.Tables.{Tables, Long, needed, shelf_of}
use Rattle.tables.specs.Tally.{store_of, policy_in, whole_of, fresh_tally}
use Rattle.tables.specs.Start.{long, Freshly}
use Rattle.tables.specs.Sound.{Sound, Linked, Queued}
use Rattle.tables.specs.Renaming.{Renamed}
use Rattle.tables.specs.declared.tally.Tally.{Tally}
use Rattle.tables.proofs.Lengths.{long_of}
use Rattle.tables.proofs.Lists.{length_filled}
use Rattle.tables.proofs.Near.{near_one}
use Rattle.tables.proofs.Ranges.{bounded}
use Rattle.tables.proofs.Renamings.{renamed}
use Rattle.tables.proofs.Shelves.{fresh_shelf}
use Rattle.tables.proofs.Twins.{fresh_done, freshly_sound, twins}
use Rattle.refusing.specs.Judging.{requests_in, fitting, settled}
use Rattle.parts.specs.Parts.{run_from, lifts_from, tally_of, events_of}
use Rattle.replay.specs.Carrying.{Carried, Runs, Answers, Carries}
use Rattle.replay.specs.Agreeing.{Left, Same, Alike}
use Rattle.replay.proofs.Cases.{due, due_here, due_sound, answers, sure, past}

-- ---- sound tables of one tally that stand for one whole state

-- are the same but for a renaming of places and the queue's order
pub one_shelf : (s : Settings) → in_range s ≡ true → (a : Tally) (u u' : Tables) → a.settings ≡ s → Sound a u → Sound a u'
    → Long s.places.0 s.catalogue.0 u → Long s.places.0 s.catalogue.0 u' → whole_of a u ≡ whole_of a u' → Renamed s a.files_kept u u'
one_shelf s h a u u' e f g l l' same =
    renamed s (bounded s h).places.1 u u' l l' (subst (λ (x : Settings). Linked x u) e f.linked) (subst (λ (x : Settings). Linked x u') e g.linked)
    (subst (λ (x : Settings). shelf_of x.catalogue.0 u ≡ shelf_of x.catalogue.0 u') e (near_one a u u' same)) a.files_kept
    (subst (λ (x : Settings). Queued x a.files_kept u) e f.queued)
    (subst (λ (x : Settings). Queued x a.files_kept u') e g.queued)

-- ---- two calls that are due one answer, from tables that stand for one shelf

module _ (a : Tally) (t t' : Tables) (e : shelf_of a.settings.catalogue.0 t ≡ shelf_of a.settings.catalogue.0 t')
    (n : needed a.settings.places.0 a.settings.catalogue.0 t ≡ needed a.settings.places.0 a.settings.catalogue.0 t')
    (told part : List ℕ) (r r' : Carried) (u u' : Tables) (now now' : List ℕ) where
  same_whole : whole_of a t ≡ whole_of a t'
  same_whole = λ i. whole (a.lifts * lift) (record { inflation = a.inflation.0; shelf = e i; stamp = a.requests })

  same_run : (qs : List Request) → run_from a t qs ≡ run_from a t' qs
  same_run qs = ap (λ (st : State). run (step (policy_in a.settings) (store_of a.settings)) st qs) same_whole

  same_lifts : (qs : List Request) → lifts_from a t qs ≡ lifts_from a t' qs
  same_lifts qs = ap (λ (st : State). lifts_of (step (policy_in a.settings) (store_of a.settings)) a.lifts st qs) same_whole

  same_done : (qs : List Request) → in_range a.settings ≡ true → Runs qs a t told r u now → Runs qs a t' told r' u' now' → Same a.settings r r' u u' now now'
  same_done qs h f g =
      let x = same_run qs in
      let tally : r.tally ≡ r'.tally = f.tally ∙ (λ i. tally_of a (same_lifts qs i) (x i)) ∙ sym g.tally in
      let state : whole_of r.tally u ≡ whole_of r.tally u' = f.state ∙ ap (λ (y : Run State). y.state) x ∙ sym g.state ∙ ap (λ (y : Tally). whole_of y u') (sym tally) in
      let is : r.answer ≡ Ok (length (events_of qs (run_from a t qs))) = answer_one _ _ f.answer in
      record {
        answer = is ∙ sym (answer_one _ _ (g.answer ∙ ap (λ (y : Run State). done (length (events_of qs y) ∷ [])) (sym x)));
        tally = tally;
        events = f.written ∙ ap (λ (y : Run State). sets told 0 (events_of qs y)) x ∙ sym g.written;
        needed =
            subst (Left a.settings r.tally.files_kept u u') (sym is)
            (one_shelf a.settings h r.tally u u' (ap (λ (y : Tally). y.settings) f.tally) f.sound (subst (λ (y : Tally). Sound y u') (sym tally) g.sound) f.long g.long state);
      }

  same_answers : (z : Result ℕ Refusal) → ((k : ℕ) → z ≡ Ok k → in_range a.settings ≡ true) → Answers a t told r u now part z → Answers a t' told r' u' now' part z → Same a.settings r r' u u' now now'
  same_answers (Ok k) h f g = same_done (requests_in a part) (h k refl) f g
  same_answers (Err x) h f g =
      let is : r.answer ≡ Err x = answer_one _ _ f.answer in
      let left : Tables → Tables = needed a.settings.places.0 a.settings.catalogue.0 in
      record {
        answer = is ∙ sym (answer_one _ _ g.answer);
        tally = f.tally ∙ sym g.tally;
        events = f.untold ∙ sym g.untold;
        needed = subst (Left a.settings r.tally.files_kept u u') (sym is) (ap left f.lent ∙ n ∙ ap left (sym g.lent));
      }

-- ---- one answer

-- two results that meet the promise of one call: nothing is free but which place a file takes, and the queue's order
pub carry_on_one_answer : (a : Tally) (t : Tables) (told : List ℕ) (r r' : Carried) (u u' : Tables) (now now' : List ℕ) (unit : ℕ) (part : List ℕ)
    → Carries a t told r u now unit part → Carries a t told r' u' now' unit part → Alike a.settings r r' u u' now now'
carry_on_one_answer a t told r r' u u' now now' unit part f g =
    let z = due_here a t told unit part in
    let x = answers a t told unit part r u now f in
    let y = answers a t told unit part r' u' now' g in
    record {
      same = same_answers a t t refl refl told part r r' u u' now now' z (λ k e. (sure a t told unit part k e).range) x y;
      past = past a t told r u now part z x ∙ sym (past a t told r' u' now' part z y);
    }

-- ---- twins, over a whole run

-- a fresh start leaves the tables as long as they were
pub fresh_long : (s : Settings) (t : Tables) (d : Result Tally Refusal) (u : Tables) → Freshly s t d u → in_range s ≡ true → long s t ≡ true → long s u ≡ true
fresh_long s t d u f h l =
    let p : ℕ = s.places.0 in
    let n : ℕ = s.catalogue.0 in
    let k = long_of p n t l in
    ap (long s) (fresh_done s t d u f h l).1
    ∙ rw (
      length_filled n no_place t.place k.place,
      length_filled p 0 t.file k.file,
      length_filled p 0 t.size k.size,
      length_filled p 0 t.cost k.cost,
      length_filled p 0 t.freq k.freq,
      length_filled p 0 t.key k.key,
      length_filled p 0 t.stamp k.stamp,
      length_filled p 0 t.queue k.queue,
    ) l

-- a fresh start and a trace give the same, whatever the tables held before
pub twins_run : (s : Settings) (t t' : Tables) (d d' : Result Tally Refusal) (u u' : Tables) → Freshly s t d u → Freshly s t' d' u' → in_range s ≡ true → long s t ≡ true → long s t' ≡ true
    → (unit : ℕ) (part told : List ℕ) (r r' : Carried) (w w' : Tables) (now now' : List ℕ)
    → Carries (fresh_tally s) u told r w now unit part → Carries (fresh_tally s) u' told r' w' now' unit part → (d ≡ d') × Same s r r' w w' now now'
twins_run s t t' d d' u u' f f' h l l' unit part told r r' w w' now now' c c' =
    let n : ℕ = s.catalogue.0 in
    let a : Tally = fresh_tally s in
    let both = twins s t t' d d' u u' f f' h l l' in
    let shelf : shelf_of n u ≡ shelf_of n u' =
    ap (shelf_of n) (fresh_done s t d u f h l).1 ∙ fresh_shelf s.places.0 n t ∙ sym (fresh_shelf s.places.0 n t') ∙ ap (shelf_of n) (sym (fresh_done s t' d' u' f' h l').1) in
    let long_same : long s u ≡ long s u' = fresh_long s t d u f h l ∙ sym (fresh_long s t' d' u' f' h l') in
    let one : due_here a u told unit part ≡ due_here a u' told unit part =
    due_sound a u told unit part (freshly_sound s t d u f h l).1 ∙ ap (λ (b : Bool). due (settled unit a b) true (fitting a part (length told))) long_same
    ∙ sym (due_sound a u' told unit part (freshly_sound s t' d' u' f' h l').1) in (
      both.0,
      same_answers a u u' shelf both.1 told part r r' w w' now now' (due_here a u' told unit part) (λ k e. h)
          (subst (Answers a u told r w now part) one (answers a u told unit part r w now c))
          (answers a u' told unit part r' w' now' c'),
    )
