-- The old copy goes, then the request is met without it: what both give together is the method's step. Assumes nothing.
use mathlib.Core.Path.{◌≡◌, refl, sym, ap, ◌∙◌, subst}
use mathlib.Core.List.{List, ◌++◌, map}
use Prim.Native.Nat.{ℕ, ◌+◌}
use native.Mathlib.Omega.{arith}
use native.Mathlib.Nat.{add-zero}
use lib.ListN.{length, get_or, length-append}
use lib.Seq.{sets}
use Rattle.amounts.specs.Requests.{Request}
use Rattle.amounts.specs.Worth.{in_force}
use Rattle.amounts.specs.declared.settings.Settings.{Settings}
use Rattle.method.specs.Shelf.{Slot, none, kept, Shelf, files}
use Rattle.method.specs.Method.{State, Served, meet, dropping, step}
use Rattle.method.specs.Events.{stale, evict}
use Rattle.method.specs.Totals.{copies}
use Rattle.method.proofs.Cases.{left, left_sum, meet_drops_none}
use Rattle.method.proofs.Runs.{length_stale}
use Rattle.method.proofs.Sound.{resolved_valued}
use Rattle.tables.specs.Tables.{Tables, shelf_of}
use Rattle.tables.specs.Tally.{store_of, policy_in, state_of, stamp_of}
use Rattle.tables.specs.declared.tally.Tally.{Tally}
use Rattle.counting.specs.Counting.{after}
use Rattle.dropping.specs.Cleaning.{old_in, clean_tally, Cleans}
use Rattle.dropping.specs.declared.stale.Cleaned.{Cleaned}
use Rattle.shelving.specs.Live.{Live, Stack}
use Rattle.admitting.specs.Deciding.{beyond_of, Gives, Met, Meetable, meets, asked}
use Rattle.admitting.specs.declared.untold.Untold.{Untold}
use Rattle.serving.specs.Serving.{Servable}
use Rattle.serving.proofs.Writing.{sets_append}

-- ---- the tally: the old copy makes no difference but to what is kept and dropped

clean_requests : (a : Tally) (x : Slot) → (clean_tally a x).requests ≡ a.requests
clean_requests a none = refl
clean_requests a (kept r) = refl

clean_settings : (a : Tally) (x : Slot) → (clean_tally a x).settings ≡ a.settings
clean_settings a none = refl
clean_settings a (kept r) = refl

-- document 01, "Event list": what is told of a request before its own entry
abbrev pub told_by : Request → Served State → List ℕ
told_by q x = stale q.file x.reply.dropped ++ map evict x.reply.evicted

-- the request met at the shelf s
abbrev met_at : Tally → Request → Shelf → Served State
met_at a q s = meet (policy_in a.settings) (store_of a.settings) a.inflation.0 s (stamp_of a) q (get_or s q.file none)

clean_meets : (a : Tally) (x : Slot) (q : Request) (t : Tables) → meets (clean_tally a x) q t ≡ met_at a q (shelf_of a.settings.catalogue.0 t)
clean_meets a none q t = refl
clean_meets a (kept r) q t = refl

clean_after : (a : Tally) (x : Slot) (y : Served State) → y.reply.dropped ≡ none → after (clean_tally a x) y ≡ after a (dropping x y)
clean_after a none y e = rw e
clean_after a (kept r) y e = rw e (simp add-zero)

-- ---- the old copy is dropped

module _ {a : Tally} (q : Request) {t : Tables} {events : List ℕ} {at : ℕ} {c : Cleaned} {t₁ : Tables} {entry₁ free₁ events₁ : List ℕ}
    (k : Cleans a q.file (old_in a q.file q.size t) t events at c t₁ entry₁ free₁ events₁) where
  abbrev x : Slot
  x = old_in a q.file q.size t

  abbrev shelf : Shelf
  shelf = shelf_of a.settings.catalogue.0 t

  same_settings : c.tally.settings ≡ a.settings
  same_settings = ap (λ (b : Tally). b.settings) k.tally ∙ clean_settings a x

  -- it was among the files kept
  files_left : files shelf ≡ a.files_kept → copies x + c.tally.files_kept ≡ a.files_kept
  files_left h =
      let e : files (shelf_of c.tally.settings.catalogue.0 t₁) ≡ c.tally.files_kept = k.running.sound.files in
      let g : files (shelf_of c.tally.settings.catalogue.0 t₁) ≡ files (left shelf q.file q.size) =
      ap (λ (s : Settings). files (shelf_of s.catalogue.0 t₁)) same_settings ∙ ap files k.shelf in
      omega (arith, e, g, h, left_sum shelf q.file q.size (λ r. 1))

  module _ {cost : ℕ} (paid : cost ≡ in_force q.size q.cost) where
    -- the request with its cost in force
    abbrev priced : Request
    priced = asked q.file q.size cost

    pub meetable : {entry free : List ℕ} → Servable a q t entry free events at → length events₁ ≡ length events → Meetable c.tally priced t₁ entry₁ free₁ events₁ c.due
    meetable h long =
        record {
          running = k.running;
          few = omega (arith, h.few, ap (λ (b : Tally). b.requests) k.tally, clean_requests a x);
          valued = rw paid (resolved_valued a.settings.catalogue.0 q h.ranged);
          known = omega (arith, h.ranged.file, ap (λ (s : Settings). s.catalogue.0) same_settings);
          room = omega (arith, h.room, long, k.due, files_left h.running.sound.files);
        }

    meets_step : dropping x (meets c.tally priced t₁) ≡ step (policy_in a.settings) (store_of a.settings) (state_of a t) q
    unfolding step
    meets_step =
        ap (dropping x)
        (ap (λ (b : Tally). meets b priced t₁) k.tally ∙ clean_meets a x priced t₁
        ∙ (λ i. met_at a (asked q.file q.size (paid i)) (k.shelf i)))

    -- and the request met
    module _ (kept : files shelf ≡ a.files_kept) {r : Untold} {u : Tables} {entry' free' events' : List ℕ}
        (m : Met c.tally t₁ events₁ c.due (meets c.tally priced t₁) r u entry' free' events') where
      abbrev y : Served State
      y = meets c.tally priced t₁

      due : c.due ≡ at + length (stale q.file x)
      due = k.due ∙ ap (λ (n : ℕ). at + n) (sym (length_stale q.file x))

      dropped_none : y.reply.dropped ≡ none
      dropped_none = meet_drops_none (policy_in c.tally.settings) (store_of c.tally.settings) c.tally.inflation.0 (shelf_of c.tally.settings.catalogue.0 t₁) (stamp_of c.tally) priced

      joined : Gives a t events at (dropping x y) (told_by q (dropping x y)) r.outcome r.tally r.due u entry' free' events'
      joined =
          record {
            outcome = m.outcome;
            tally = m.tally ∙ ap (λ (b : Tally). after b y) k.tally ∙ clean_after a x y dropped_none;
            shelf = ap (λ (s : Settings). shelf_of s.catalogue.0 u) (sym same_settings) ∙ m.shelf;
            few = omega (arith, m.few, files_left kept);
            written =
                m.written ∙ (λ i. sets (k.written i) (due i) (map evict y.reply.evicted))
                ∙ sym (sets_append events at (stale q.file x) (map evict y.reply.evicted));
            count = omega (arith, m.count, due, length-append (stale q.file x) (map evict y.reply.evicted));
            live = subst (λ (s : Settings). Live s r.tally.files_kept r.tally.files_kept u entry') same_settings m.live;
            stack = subst (λ (s : Settings). Stack s r.tally.files_kept u free') same_settings m.stack;
            past = subst (λ (s : Settings). beyond_of s u ≡ beyond_of s t₁) same_settings m.past ∙ k.past;
          }

      -- together they are the method's step
      abbrev given : Served State
      given = step (policy_in a.settings) (store_of a.settings) (state_of a t) q

      pub joins : Gives a t events at given (told_by q given) r.outcome r.tally r.due u entry' free' events'
      joins = subst (λ (z : Served State). Gives a t events at z (told_by q z) r.outcome r.tally r.due u entry' free' events') meets_step joined
