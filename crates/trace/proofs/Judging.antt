-- What the writers answer at each of their returns. Assumes nothing.
use Prim.Native.Nat.{ℕ, ◌≤◌, min}
use mathlib.Core.Path.{◌≡◌, refl, ap, sym, subst, ◌∙◌}
use mathlib.Core.List.{List, [], ◌++◌}
use mathlib.Core.Bool.{Bool, true, false}
use native.Mathlib.Omega.{arith}
use borrow.Author.Tests.{leb-true, ltb-false}
use lib.ListN.{length}
use lib.Dec.{leb, ltb}
use Rattle.std.specs.Prelude.{Result, Ok, Err}
use Rattle.amounts.specs.Limits.{pick, is_catalogue}
use Rattle.amounts.specs.Settings.{in_range}
use Rattle.amounts.specs.declared.settings.Settings.{Settings}
use Rattle.amounts.proofs.Tests.{pick_true, pick_false}
use Rattle.card.specs.declared.Refusal.{Refusal}
use Rattle.card.specs.declared.Refusal.TheVariants.{Setting, Short, Range, Room}
use Rattle.trace.specs.Writing.{part_bytes, settings_bytes, requests_in, first_out, Put, bytes, stop, listed, part_put, file_put}
use Rattle.trace.specs.Promise.{over, Wrote, WrotePart, WroteFile}
use Rattle.trace.specs.Stores.{Listed, sized, Judged, Roomy, Laid}
use Rattle.trace.proofs.Laying.{laid_over, laid_then}

pub wrote_stop : (p : Put) (o : List ℕ) (r : Refusal) → p ≡ stop r → Wrote p o (Err r) o
wrote_stop p o r e = record { answer = rw e; buffer = rw e }

pub wrote_bytes : (p : Put) (bs o o' : List ℕ) (n : ℕ) → p ≡ bytes bs → n ≡ length bs → o' ≡ over bs o → Wrote p o (Ok n) o'
wrote_bytes p bs o o' n e h b = record { answer = rw (e, h); buffer = rw e b }

pub sized_stop : (p : Put) (r : Refusal) → Err r ≡ sized p → p ≡ stop r
sized_stop (bytes bs) r e = let z : ◌≡◌ {A = ℕ} 0 1 = cc in absurd (omega arith)
sized_stop (stop a) r e = cc

pub sized_bytes : (p : Put) (n : ℕ) → Ok n ≡ sized p → (bs : List ℕ) × ((p ≡ bytes bs) × (n ≡ length bs))
sized_bytes (bytes bs) n e = (bs, (refl, cc))
sized_bytes (stop a) n e = let z : ◌≡◌ {A = ℕ} 0 1 = cc in absurd (omega arith)

-- the lists are long enough, no request is out of range, and there is room for the bytes
pub record Passed (c : ℕ) (front : List ℕ) (room : ℕ) (f s d bs : List ℕ) : Type 0 where
  pub lists : Listed f s d
  pub in_range_lem : length (requests_in f s d) ≤ first_out c (requests_in f s d)
  pub fits : length bs ≤ room
  pub same : bs ≡ front ++ part_bytes (requests_in f s d)

pub passed : (c : ℕ) (front : List ℕ) (room : ℕ) (f s d bs : List ℕ) → listed c front room f s d ≡ bytes bs → Passed c front room f s d bs
passed c front room f s d bs e =
    go (leb (length f) (min (length s) (length d))) refl (ltb (first_out c (requests_in f s d)) (length (requests_in f s d))) refl (leb (length (front ++ part_bytes (requests_in f s d))) room) refl e
  where
    go : (t₁ : Bool) → leb (length f) (min (length s) (length d)) ≡ t₁ → (t₂ : Bool) → ltb (first_out c (requests_in f s d)) (length (requests_in f s d)) ≡ t₂ → (t₃ : Bool) → leb (length (front ++ part_bytes (requests_in f s d))) room ≡ t₃
        → pick t₁ (pick t₂ (stop (Range (first_out c (requests_in f s d)))) (pick t₃ (bytes (front ++ part_bytes (requests_in f s d))) (stop Room))) (stop Short) ≡ bytes bs → Passed c front room f s d bs
    go true e₁ true e₂ t₃ e₃ e = let z : ◌≡◌ {A = ℕ} 0 1 = cc in absurd (omega arith)
    go true e₁ false e₂ true e₃ e =
        let enough : length f ≤ min (length s) (length d) = leb-true _ _ e₁ in
        let in-room : length (front ++ part_bytes (requests_in f s d)) ≤ room = leb-true _ _ e₃ in
        let same : bs ≡ front ++ part_bytes (requests_in f s d) = cc in
        record {
          lists = record { sizes = omega arith; costs = omega arith };
          in_range_lem = ltb-false _ _ e₂;
          fits = omega (arith, ap length same);
          same = same;
        }
    go true e₁ false e₂ false e₃ e = let z : ◌≡◌ {A = ℕ} 0 1 = cc in absurd (omega arith)
    go false e₁ t₂ e₂ t₃ e₃ e = let z : ◌≡◌ {A = ℕ} 0 1 = cc in absurd (omega arith)

-- what `judge` answered, for a buffer o: a refusal, or bytes for which there is room
module _ (c : ℕ) (front f s d o : List ℕ) (head : ℕ) (e : head ≡ length front) (r : Result ℕ Refusal) (h : Judged c head (length o) f s d r) where
  judged_stop : (x : Refusal) → r ≡ Err x → listed c front (length o) f s d ≡ stop x
  judged_stop x q = sized_stop _ x (sym q ∙ h.told front e)

  module _ (n : ℕ) (q : r ≡ Ok n) where
    got : (bs : List ℕ) × ((listed c front (length o) f s d ≡ bytes bs) × (n ≡ length bs))
    got = sized_bytes _ n (sym q ∙ h.told front e)

    judged_roomy : Listed f s d × Roomy (front ++ part_bytes (requests_in f s d)) 0 o
    judged_roomy =
        let p = passed c front (length o) f s d got.0 got.1.0 in
        (p.lists, record { room = omega (arith, p.fits, ap length p.same) })

    judged_wrote : (o' : List ℕ) (at : ℕ) → Laid (front ++ part_bytes (requests_in f s d)) 0 o o' at → Wrote (listed c front (length o) f s d) o (Ok n) o'
    judged_wrote o' at l =
        let p = passed c front (length o) f s d got.0 got.1.0 in
        wrote_bytes _ got.0 o o' n got.1.0 got.1.1 (laid_over _ o o' at p.fits (subst (λ (x : List ℕ). Laid x 0 o o' at) (sym p.same) l))

module _ (c : ℕ) (f s d o : List ℕ) where
  pub part_setting : is_catalogue c ≡ false → WrotePart c f s d o (Err Setting) o
  unfolding part_put
  part_setting e = wrote_stop _ o Setting (pick_false _ _ e)

  module _ (e : is_catalogue c ≡ true) (r : Result ℕ Refusal) (h : Judged c 0 (length o) f s d r) where
    pub part_refused : (x : Refusal) → r ≡ Err x → WrotePart c f s d o (Err x) o
    unfolding part_put
    part_refused x q = wrote_stop _ o x (pick_true _ _ e ∙ judged_stop c [] f s d o 0 refl r h x q)

    module _ (n : ℕ) (q : r ≡ Ok n) where
      pub part_room : Listed f s d × Roomy (part_bytes (requests_in f s d)) 0 o
      part_room = judged_roomy c [] f s d o 0 refl r h n q

      pub part_done : (o' : List ℕ) (at : ℕ) → Laid (part_bytes (requests_in f s d)) 0 o o' at → WrotePart c f s d o (Ok n) o'
      unfolding part_put
      part_done o' at l = subst (λ (p : Put). Wrote p o (Ok n) o') (sym (pick_true _ _ e)) (judged_wrote c [] f s d o 0 refl r h n q o' at l)

module _ (st : Settings) (f s d o : List ℕ) where
  pub file_setting : in_range st ≡ false → WroteFile st f s d o (Err Setting) o
  unfolding file_put
  file_setting e = wrote_stop _ o Setting (pick_false _ _ e)

  module _ (e : in_range st ≡ true) (head : ℕ) (w : head ≡ length (settings_bytes st)) (r : Result ℕ Refusal) (h : Judged st.catalogue.0 head (length o) f s d r) where
    pub file_refused : (x : Refusal) → r ≡ Err x → WroteFile st f s d o (Err x) o
    unfolding file_put
    file_refused x q = wrote_stop _ o x (pick_true _ _ e ∙ judged_stop st.catalogue.0 (settings_bytes st) f s d o head w r h x q)

    module _ (n : ℕ) (q : r ≡ Ok n) where
      pub file_room : Listed f s d × Roomy (settings_bytes st ++ part_bytes (requests_in f s d)) 0 o
      file_room = judged_roomy st.catalogue.0 (settings_bytes st) f s d o head w r h n q

      pub file_done : (o' o'' : List ℕ) (at at' : ℕ) → Laid (settings_bytes st) 0 o o' at → Laid (part_bytes (requests_in f s d)) at o' o'' at' → WroteFile st f s d o (Ok n) o''
      unfolding file_put
      file_done o' o'' at at' l l' =
          subst (λ (p : Put). Wrote p o (Ok n) o'') (sym (pick_true _ _ e)) (judged_wrote st.catalogue.0 (settings_bytes st) f s d o head w r h n q o'' at' (laid_then _ _ _ _ _ _ l _ _ l'))
