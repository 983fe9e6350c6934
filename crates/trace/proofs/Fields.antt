-- A field at a place of the bytes: what the number there makes of it, and what the fields make of the settings and of a request. Assumes nothing.
use Prim.Native.Nat.{ℕ, ◌+◌, ◌-◌, ◌≤◌, ◌<◌}
use mathlib.Core.Path.{◌≡◌, ◌∙◌}
use mathlib.Core.List.{List}
use mathlib.Core.Bool.{Bool, true, false}
use native.Mathlib.Omega.{arith}
use lib.ListN.{length, drop, get_or, length-drop}
use Rattle.amounts.specs.Limits.{is_size, is_cost}
use Rattle.card.specs.declared.Refusal.{Refusal}
use Rattle.card.specs.declared.Refusal.TheVariants.{Form, Range}
use Rattle.trace.specs.Number.{bad, decode}
use Rattle.trace.specs.Fields.{Field, off, field, on_val, is_file}
use Rattle.trace.specs.Reading.{stop, push, read_of}
use Rattle.trace.specs.Steps.{NumberAt, Tells, FieldVal, RequestVal}
use Rattle.trace.specs.declared.number.Number.{Number}
use Rattle.trace.proofs.Groups.{at_drop}
use Rattle.trace.proofs.Enough.{after_shorter, decode_after, read_cons}

pub offset_drop : (part : List ℕ) (start : ℕ) → start ≤ length part → length part - length (drop start part) ≡ start
offset_drop part start h = rw length-drop (omega arith)

module _ (part : List ℕ) (at : ℕ) (in-part : at ≤ length part) (inside : ℕ → Bool) (out : ℕ → Refusal) where
  abbrev here : Field
  here = field (length part) inside out (drop at part)

  pub field_none : decode (drop at part) ≡ bad → here ≡ off (Form at)
  field_none e = rw (e, offset_drop part at in-part)

  module _ (n : Number) (p : NumberAt part at n) where
    pub field_out : inside n.value ≡ false → here ≡ off (out at)
    field_out r = rw (p.spelt, r, offset_drop part at in-part)

    pub field_val : inside n.value ≡ true → FieldVal here part at n
    field_val r =
        let short : length (drop n.next part) < length (drop at part) = after_shorter (decode_after p.spelt) in
        record {
          judged = rw (p.spelt, r);
          further = omega (arith, short, length-drop at part, length-drop n.next part, p.inside);
          inside = p.inside;
        }

-- a test with a contract of its own says what it answers
pub plain_test : (inside : ℕ → Bool) → Tells (λ v t. t ≡ inside v) inside
plain_test inside v t k = k

-- the first request at a place, field by field
module _ (part : List ℕ) (c at : ℕ) (more : at < length part) where
  abbrev n : ℕ
  n = length part

  begun : read_of n c (drop at part)
      ≡ on_val stop (field n (is_file c) Range (drop at part))
      (λ file s₁. on_val stop (field n is_size Range s₁)
      (λ size s₂. on_val stop (field n is_cost Range s₂)
      (λ cost s₃. push (record { file = file; size = size; cost = cost }) (read_of n c s₃))))
  begun = rw (at_drop part at more) (read_cons n c (get_or part at 0) (drop (at + 1) part))

  pub file_stops : (r : Refusal) → field n (is_file c) Range (drop at part) ≡ off r → read_of n c (drop at part) ≡ stop r
  file_stops r e = begun ∙ rw e

  module _ (file : Number) (f : FieldVal (field n (is_file c) Range (drop at part)) part at file) where
    pub size_stops : (r : Refusal) → field n is_size Range (drop file.next part) ≡ off r → read_of n c (drop at part) ≡ stop r
    size_stops r e = begun ∙ rw (f.judged, e)

    module _ (size : Number) (z : FieldVal (field n is_size Range (drop file.next part)) part file.next size) where
      pub cost_stops : (r : Refusal) → field n is_cost Range (drop size.next part) ≡ off r → read_of n c (drop at part) ≡ stop r
      cost_stops r e = begun ∙ rw (f.judged, z.judged, e)

      pub request_there : (cost : Number) → FieldVal (field n is_cost Range (drop size.next part)) part size.next cost → RequestVal (read_of n c (drop at part)) part c at cost.next
      request_there cost d =
          record {
            request = record { file = file.value; size = size.value; cost = cost.value };
            judged = begun ∙ rw (f.judged, z.judged, d.judged);
            further = omega (arith, f.further, z.further, d.further);
            inside = d.inside;
          }
