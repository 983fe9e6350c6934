-- The ways through the sheet, test by test. Assumes nothing.
use Prim.Native.Nat.{ℕ, ◌-◌, ◌≤◌, ◌<◌}
use mathlib.Core.Path.{◌≡◌, refl, ap, sym, subst, ◌∙◌}
use mathlib.Core.List.{List, [], ◌∷◌}
use native.Mathlib.Omega.{arith}
use borrow.Author.Tests.{le-leb, lt-leb}
use lib.ListN.{length, take, drop, replicate, length-drop, length-replicate}
use lib.Seq.{sets-eq, length-sets, take_all, take_at}
use Rattle.std.specs.Prelude.{Result, Ok, Err}
use Rattle.amounts.specs.declared.settings.Settings.{Settings}
use Rattle.amounts.proofs.Tests.{pick_true}
use Rattle.card.specs.Card.{done, card_of}
use Rattle.card.specs.declared.Refusal.{Refusal}
use Rattle.trace.specs.Reading.{Read, good, stop, read_of, Opened, opened, shut, settings_of}
use Rattle.trace.specs.Stores.{Roomy, Laid}
use Rattle.trace.specs.Cards.{opening_card, opening_answer}
use Rattle.trace.proofs.Answers.{start_shut, start_at}
use Rattle.trace.proofs.Taking.{five}
use Rattle.trace.proofs.Laying.{laid_over}
use Rattle.trace.proofs.RoundTrip.{part_ranged}
use Rattle.layout.specs.Sheet.{input_most, own_places, own_catalogue, own_events, sheet_most, ran_events, of_read, of_file, sheet_of}
use Rattle.lines.specs.Lines.{refused_line, page}
use Rattle.layout.specs.Steps.{Given, OwnSized, RanOn, Ran, Ample}
use Rattle.layout.specs.Promise.{Sheeted}
use Rattle.lines.proofs.Items.{laid_long}
use Rattle.layout.proofs.Running.{few_requests, few_events}
use Rattle.layout.proofs.Fitting.{refused_short, read_fits, sheet_fits}
use Rattle.replay.specs.Carrying.{Carried}

-- what was laid at the front is there to take
take_laid : (vs list list' : List ℕ) (n : ℕ) → length vs ≤ length list → Laid vs 0 list list' n → take n list' ≡ vs
take_laid vs list list' n h p = ap (take n) (p.placed ∙ sets-eq vs list 0 (omega arith)) ∙ take_at vs _ n (omega (arith, p.ends))

pub page_room : (bs text : List ℕ) → Ample text → length bs ≤ sheet_most → Roomy bs 0 text
page_room bs text a h = record { room = omega (arith, h, a.room) }

pub refused_room : (n : ℕ) (text : List ℕ) → Ample text → Roomy (refused_line n) 0 text
refused_room n text a = page_room (refused_line n) text a (omega (arith, refused_short n))

-- the text and the event list of the program's own
pub own_ample : (n : ℕ) → sheet_most ≤ n → Ample (replicate n 0)
own_ample n h = record { room = omega (arith, h, length-replicate {A = ℕ} n 0) }

pub own_held : (s : Settings) (part : List ℕ) → Given s part → s.places.0 ≤ own_places → s.catalogue.0 ≤ own_catalogue → OwnSized s part (replicate own_events 0)
own_held s part g p c = record { given = g; places = p; catalogue = c; events = length-replicate {A = ℕ} own_events 0 }

-- ---- settings, and the requests after them

module _ (s : Settings) (part : List ℕ) where
  pub places_beyond : own_places < s.places.0 → of_file (opened s part) ≡ refused_line 2
  places_beyond h = rw (lt-leb s.places.0 own_places h)

  pub catalogue_beyond : s.places.0 ≤ own_places → own_catalogue < s.catalogue.0 → of_file (opened s part) ≡ refused_line 2
  catalogue_beyond h k = rw (le-leb s.places.0 own_places h, lt-leb s.catalogue.0 own_catalogue k)

  module _ (told : List ℕ) (h : OwnSized s part told) where
    within : of_file (opened s part) ≡ of_read s (read_of (length part) s.catalogue.0 part)
    within = rw (le-leb s.places.0 own_places h.places, le-leb s.catalogue.0 own_catalogue h.catalogue)

    module _ (r : Carried) (told' : List ℕ) (p : Ran s part told r told') where
      pub ran_refused : (x : Refusal) → r.answer ≡ Err x → of_file (opened s part) ≡ refused_line (card_of x).number
      ran_refused x e = within ∙ go (read_of (length part) s.catalogue.0 part) p.ran
        where
          go : (z : Read) → RanOn s told r told' z → of_read s z ≡ refused_line (card_of x).number
          go (stop y) q = let k : y ≡ x = cc in ap (λ (w : Refusal). refused_line (card_of w).number) k
          go (good qs) q = let z : ◌≡◌ {A = ℕ} 0 1 = cc q.0 in absurd (omega arith)

      -- the page of what a run that is done has left
      pub record Paged (count : ℕ) : Type 0 where
        pub many : count ≤ length told'
        pub same : page r.tally (take count told') ≡ of_file (opened s part)
        pub short : length (page r.tally (take count told')) ≤ sheet_most

      pub ran_done : (count : ℕ) → r.answer ≡ Ok count → Paged count
      ran_done count e = go (read_of (length part) s.catalogue.0 part) refl p.ran
        where
          go : (z : Read) → read_of (length part) s.catalogue.0 part ≡ z → RanOn s told r told' z → Paged count
          go (stop y) i q = let z : ◌≡◌ {A = ℕ} 0 1 = cc in absurd (omega arith)
          go (good qs) i q =
              let es : List ℕ = ran_events s qs in
              let n : length es ≡ count = cc q.0 in
              let ranged = part_ranged (length part) s.catalogue.0 qs part i in
              let few : length es ≤ length told =
              omega (arith, few_events s h.given.ranged qs ranged, few_requests (length part) s.catalogue.0 part qs i, h.given.short, h.events) in
              let same : page r.tally (take count told') ≡ of_read s (good qs) =
              (λ j. page (q.1 j) (take_laid es told told' count few (record { placed = q.2; ends = omega arith }) j)) in
              record {
                many = omega (arith, n, few, ap length q.2, length-sets told 0 es);
                same = same ∙ sym (within ∙ ap (of_read s) i);
                short = rw same (read_fits s part h.given (good qs) i);
              }

-- ---- the whole trace

module _ (trace : List ℕ) where
  pub too_long : input_most < length trace → sheet_of trace ≡ refused_line 9
  unfolding sheet_of
  too_long h = rw (lt-leb (length trace) input_most h)

  module _ (h : length trace ≤ input_most) (r : Result (Settings × ℕ) Refusal) (a : opening_card r ≡ opening_answer trace) where
    begins : (x : Opened) → settings_of (length trace) trace ≡ x → sheet_of trace ≡ of_file x
    unfolding sheet_of
    begins x e = rw (le-leb (length trace) input_most h, e)

    pub start_refused : (x : Refusal) → r ≡ Err x → sheet_of trace ≡ refused_line (card_of x).number
    start_refused x e = begins (shut x) (start_shut trace r x a e)

    module _ (s : Settings) (at : ℕ) (e : r ≡ Ok (s, at)) where
      found : (at ≤ length trace) × (settings_of (length trace) trace ≡ opened s (drop at trace))
      found = start_at trace r s at a e

      pub start_inside : at ≤ length trace
      start_inside = found.0

      -- the bytes from there on, as the code lends them
      rest : take (length trace - at) (drop at trace) ≡ drop at trace
      rest = take_all (length trace - at) (drop at trace) (omega (arith, length-drop at trace))

      pub start_given : Given s (take (length trace - at) (drop at trace))
      start_given = rw rest (record { ranged = (five (length trace) trace s (drop at trace) found.1).in_range_lem; short = omega (arith, h, length-drop at trace) })

      pub start_same : sheet_of trace ≡ of_file (opened s (take (length trace - at) (drop at trace)))
      start_same = begins _ found.1 ∙ ap (λ (x : List ℕ). of_file (opened s x)) (sym rest)

-- ---- the answer

module _ (trace text text' : List ℕ) (count : ℕ) (p : Laid (sheet_of trace) 0 text text' count) (a : Ample text) (out : List ℕ) where
  taken : take count text' ≡ sheet_of trace
  taken = take_laid (sheet_of trace) text text' count (omega (arith, sheet_fits trace, a.room)) p

  pub sheet_inside : count ≤ length text'
  sheet_inside = omega (arith, p.ends, sheet_fits trace, a.room, laid_long _ _ _ _ _ p)

  pub sheet_done : count ≤ length out → (out' : List ℕ) (at : ℕ) → Laid (take count text') 0 out out' at → Sheeted trace out (Ok count) out'
  sheet_done h out' at q =
      let e = le-leb (length (sheet_of trace)) (length out) (omega (arith, h, p.ends)) in
      let n : count ≡ length (sheet_of trace) = omega (arith, p.ends) in
      record {
        answer = ap (λ (k : ℕ). done (k ∷ [])) n ∙ sym (pick_true _ _ e);
        buffer = laid_over (sheet_of trace) out out' at (omega (arith, h, n)) (subst (λ (bs : List ℕ). Laid bs 0 out out' at) taken q) ∙ sym (pick_true _ _ e);
      }
