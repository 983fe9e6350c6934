-- Writer and reader over each other: what a writer leaves in its buffer reads back, and what a reader gives writes back. Assumes nothing.
use Prim.Native.Nat.{ℕ, suc, ◌≤◌, min}
use mathlib.Core.Path.{◌≡◌, refl, ap, sym, ◌∙◌}
use mathlib.Core.List.{List, [], ◌∷◌, ◌++◌}
use mathlib.Core.Bool.{Bool, true, false}
use native.Mathlib.Omega.{arith}
use borrow.Author.Tests.{lt-ltb, ltb-true, le-ltb, le-leb}
use lib.ListN.{length, take, drop, get_or, length-map}
use lib.Seq.{take_at}
use Rattle.std.specs.Prelude.{Ok}
use Rattle.amounts.specs.Limits.{pick, is_catalogue, is_size, is_cost}
use Rattle.amounts.specs.Settings.{in_range}
use Rattle.amounts.specs.Requests.{Request, Ranged, AllRanged}
use Rattle.amounts.specs.declared.settings.Settings.{Settings}
use Rattle.amounts.proofs.Tests.{pick_true, pick_false}
use Rattle.card.specs.Card.{Card}
use Rattle.card.specs.declared.Refusal.TheVariants.{Setting}
use Rattle.trace.specs.Number.{AreBytes}
use Rattle.trace.specs.Fields.{is_file, is_request}
use Rattle.trace.specs.Reading.{good, read_of, FileReads}
use Rattle.trace.specs.Writing.{part_bytes, settings_bytes, file_bytes, requests_in, first_out, Put, bytes, stop, in_order, listed, part_put, file_put}
use Rattle.trace.specs.Promise.{files_of, sizes_of, costs_of, Wrote, WrotePart, WroteFile}
use Rattle.trace.proofs.Judging.{passed}
use Rattle.card.proofs.Cases.{done_not_refused}
use Rattle.trace.proofs.RoundTrip.{part_back, part_again, part_ranged, file_back, file_again, file_ranged}

-- the writer's test of a request is its range
request_ranged : (c : ℕ) (q : Request) → is_request c q ≡ true → Ranged c q
unfolding is_request
request_ranged c q e = go (is_file c q.file) refl (is_size q.size) refl e
  where
    go : (t : Bool) → is_file c q.file ≡ t → (u : Bool) → is_size q.size ≡ u → pick t (pick u (is_cost q.cost) false) false ≡ true → Ranged c q
    go true p true r e = record { file = ltb-true q.file c p; size = r; cost = e }
    go true p false r e = let z : ◌≡◌ {A = ℕ} 0 1 = cc in absurd (omega arith)
    go false p u r e = let z : ◌≡◌ {A = ℕ} 0 1 = cc in absurd (omega arith)

ranged_request : (c : ℕ) (q : Request) → Ranged c q → is_request c q ≡ true
unfolding is_request
ranged_request c q r = simp (lt-ltb q.file c r.file, r.size, r.cost)

none_out : (c : ℕ) (l : List Request) → length l ≤ first_out c l → AllRanged c l
none_out c [] h = tt
none_out c (q ∷ l) h = go (is_request c q) refl h (none_out c l)
  where
    go : (t : Bool) → is_request c q ≡ t → suc (length l) ≤ pick t (suc (first_out c l)) 0 → (length l ≤ first_out c l → AllRanged c l) → Ranged c q × AllRanged c l
    go true e h ih = (request_ranged c q e, ih (omega arith))
    go false e h ih = absurd (omega arith)

out_none : (c : ℕ) (l : List Request) → AllRanged c l → first_out c l ≡ length l
out_none c [] a = refl
out_none c (q ∷ l) a = rw (ranged_request c q a.0) (ap suc (out_none c l a.1))

guarded : (t : Bool) (p : Put) (bs : List ℕ) → pick t p (stop Setting) ≡ bytes bs → (t ≡ true) × (p ≡ bytes bs)
guarded true p bs e = (refl, e)
guarded false p bs e = let z : ◌≡◌ {A = ℕ} 0 1 = cc in absurd (omega arith)

wrote_done : (p : Put) (o : List ℕ) (n : ℕ) (o' : List ℕ) → Wrote p o (Ok n) o' → p ≡ bytes (take n o')
wrote_done (bytes bs) o n o' w =
    let e : length bs ≡ n = ap (λ (c : Card). get_or c.values 0 0) (sym w.answer) in
    ap bytes (sym (take_at bs (drop (length bs) o) n e) ∙ ap (take n) (sym w.buffer))
wrote_done (stop r) o n o' w = absurd (done_not_refused r w.answer)

-- what `write_part` leaves at the front of its buffer reads back as the requests of the lists
pub part_exchanged : (c : ℕ) (f s d o : List ℕ) (n : ℕ) (o' : List ℕ) → WrotePart c f s d o (Ok n) o' → (m : ℕ) → read_of m c (take n o') ≡ good (requests_in f s d)
unfolding part_put
part_exchanged c f s d o n o' w m =
    let g = guarded (is_catalogue c) (listed c [] (length o) f s d) (take n o') (wrote_done _ o n o' w) in
    let p = passed c [] (length o) f s d (take n o') g.1 in
    rw p.same (part_back m c g.0 (requests_in f s d) (none_out c (requests_in f s d) p.in_range_lem))

-- what `write_file` leaves at the front of its buffer reads back as the settings and the requests of the lists
pub file_exchanged : (st : Settings) (f s d o : List ℕ) (n : ℕ) (o' : List ℕ) → WroteFile st f s d o (Ok n) o' → FileReads (take n o') st (requests_in f s d)
unfolding file_put
file_exchanged st f s d o n o' w =
    let g = guarded (in_range st) (listed st.catalogue.0 (settings_bytes st) (length o) f s d) (take n o') (wrote_done _ o n o' w) in
    let p = passed st.catalogue.0 (settings_bytes st) (length o) f s d (take n o') g.1 in
    rw p.same (file_back st (requests_in f s d) g.0 (none_out st.catalogue.0 (requests_in f s d) p.in_range_lem))

-- the lists of some requests hold those requests
pub lists_of : (l : List Request) → requests_in (files_of l) (sizes_of l) (costs_of l) ≡ l
lists_of [] = refl
lists_of (q ∷ l) = ap (λ (x : List Request). q ∷ x) (lists_of l)

listed_of : (c : ℕ) (front : List ℕ) (room : ℕ) (l : List Request) → AllRanged c l → length (front ++ part_bytes l) ≤ room → listed c front room (files_of l) (sizes_of l) (costs_of l) ≡ bytes (front ++ part_bytes l)
listed_of c front room l a h =
    let same : length (files_of l) ≤ min (length (sizes_of l)) (length (costs_of l)) = omega (arith, length-map l (λ (q : Request). q.file), length-map l (λ (q : Request). q.size), length-map l (λ (q : Request). q.cost)) in
    let none : length l ≤ first_out c l = omega (arith, out_none c l a) in
    pick_true _ _ (le-leb _ _ same)
    ∙ ap (in_order c front room) (lists_of l)
    ∙ pick_false _ _ (le-ltb _ _ none)
    ∙ pick_true _ _ (le-leb _ _ h)

-- what was read from a further part is written as the same bytes
pub part_rewritten : (n c : ℕ) (s : List ℕ) (l : List Request) (room : ℕ) → is_catalogue c ≡ true → AreBytes s → read_of n c s ≡ good l → length s ≤ room → part_put c room (files_of l) (sizes_of l) (costs_of l) ≡ bytes s
unfolding part_put
part_rewritten n c s l room h b e r =
    let again = part_again n c l s b e in
    let fits : length (part_bytes l) ≤ room = omega (arith, ap length again) in
    pick_true _ _ h ∙ listed_of c [] room l (part_ranged n c l s e) fits ∙ ap bytes again

-- what was read from a file is written as the same bytes
pub file_rewritten : (trace : List ℕ) (st : Settings) (l : List Request) (room : ℕ) → AreBytes trace → FileReads trace st l → length trace ≤ room → file_put st room (files_of l) (sizes_of l) (costs_of l) ≡ bytes trace
unfolding file_put
file_rewritten trace st l room b r h =
    let again = file_again trace st l b r in
    let ok = file_ranged trace st l r in
    let fits : length (file_bytes st l) ≤ room = omega (arith, ap length again) in
    pick_true _ _ ok.0 ∙ listed_of st.catalogue.0 (settings_bytes st) room l ok.1 fits ∙ ap bytes again
