-- Trace bytes in words, by the ways through each function. Assumes nothing.
use mathlib.Core.Path.{◌≡◌, refl, ap, sym, ◌∙◌, subst}
use mathlib.Core.Bool.{Bool, true, false}
use mathlib.Core.List.{List, [], ◌∷◌, ◌++◌}
use Prim.Native.Nat.{ℕ, ◌≤◌}
use native.Mathlib.Omega.{arith}
use lib.Dec.{leb}
use lib.ListN.{length, take, get_or}
use borrow.Author.Tests.{le-leb}
use Rattle.std.specs.Prelude.{Result, Ok, Err}
use Rattle.amounts.specs.Limits.{pick}
use Rattle.amounts.specs.Requests.{Request}
use Rattle.amounts.specs.declared.settings.Settings.{Settings}
use Rattle.card.specs.Card.{Card, done, card_of}
use Rattle.card.specs.declared.Refusal.{Refusal}
use Rattle.card.specs.declared.Refusal.TheVariants.{Room}
use Rattle.trace.specs.Reading.{Read, good, stop, Opened, opened, shut, settings_of, read_of, file_read, rows}
use Rattle.trace.specs.Cards.{answer_card, file_card, numbers, read_card, settings_read}
use Rattle.trace.specs.Promise.{over, Over, room, ReadFile}
use Rattle.card.proofs.Cases.{done_not_refused}
use Rattle.words.specs.Words.{answer_word}
use Rattle.snailstamp.specs.Steps.{PutRead, Unread}
use Rattle.snailstamp.specs.Traces.{in_place, file_taken, ReadFileAs, ReadFileWords}

-- ---- a file whose settings have no room

module _ (trace : List ℕ) where
  pub unread_shut : (x : Refusal) → settings_of (length trace) trace ≡ shut x → Unread trace x
  unfolding file_taken file_read
  unread_shut x e = record { refused = λ w n h. rw e }

  module _ (s : Settings) (rest : List ℕ) (e : settings_of (length trace) trace ≡ opened s rest) where
    pub unread_stop : (x : Refusal) → read_of (length trace) s.catalogue.0 rest ≡ stop x → Unread trace x
    unfolding file_taken file_read
    unread_stop x q = record { refused = λ w n h. rw (e, q) }

    pub unread_room : (l : List Request) → read_of (length trace) s.catalogue.0 rest ≡ good l → Unread trace Room
    unfolding file_taken file_read
    unread_room l q = record { refused = λ w n h. rw (e, q, h) (go (leb (length l) n)) }
      where
        go : (b : Bool) → in_place false (pick b (good l) (stop Room)) ≡ stop Room
        go true = refl
        go false = refl

-- ---- a file

module _ (trace w f s d : List ℕ) where
  in_place_lem : (z : Read) → in_place true z ≡ z
  in_place_lem (good l) = refl
  in_place_lem (stop x) = refl

  -- where they have room, the settings change nothing of what is read
  taken : 5 ≤ length w → file_read trace (room f s d) ≡ file_taken trace w (room f s d)
  unfolding file_taken
  taken h = sym (rw (le-leb 5 (length w) h) (in_place_lem (file_read trace (room f s d))))

  module _ (h : 5 ≤ length w) (a : Result (Settings × ℕ) Refusal) (f' s' d' : List ℕ) (g : ReadFile trace f s d a f' s' d') where
    file_refused : (x : Refusal) → a ≡ Err x → ReadFileWords trace w f s d (answer_word (card_of x)) w f' s' d'
    file_refused x q =
        subst (λ (z : Read). ReadFileAs z trace w f s d (answer_word (card_of x)) w f' s' d') (taken h) (go (file_read trace (room f s d)) (sym (ap file_card q) ∙ g.answer) g.lists)
      where
        go : (z : Read) → card_of x ≡ read_card (settings_read (settings_of (length trace) trace)) z → Over (rows z) f s d f' s' d' → ReadFileAs z trace w f s d (answer_word (card_of x)) w f' s' d'
        go (stop y) p o = record { answer = ap answer_word p; settings = refl; lists = o }
        go (good l) p o = absurd (done_not_refused x (sym p))

    file_done : (st : Settings) (n : ℕ) → a ≡ Ok (st, n) → ReadFileWords trace w f s d (answer_word (answer_card (Ok n))) (over (numbers st) w) f' s' d'
    unfolding answer_word
    file_done st n q =
        subst (λ (z : Read). ReadFileAs z trace w f s d (answer_word (answer_card (Ok n))) (over (numbers st) w) f' s' d') (taken h)
        (go (settings_of (length trace) trace) refl (file_read trace (room f s d)) (sym (ap file_card q) ∙ g.answer) g.lists)
      where
        go : (o : Opened) → settings_of (length trace) trace ≡ o → (z : Read) → done (numbers st ++ (n ∷ [])) ≡ read_card (settings_read o) z → Over (rows z) f s d f' s' d'
            → ReadFileAs z trace w f s d (answer_word (answer_card (Ok n))) (over (numbers st) w) f' s' d'
        go o k (stop y) p l = absurd (done_not_refused y p)
        go (shut y) k (good l) p o = let z : ◌≡◌ {A = ℕ} 6 1 = ap (λ (c : Card). length c.values) p in absurd (omega arith)
        go (opened st' rest) k (good l) p o =
            record {
              answer = ap (λ (c : Card). answer_word (done (get_or c.values 5 0 ∷ []))) p;
              settings = rw k (ap (λ (c : Card). over (take 5 c.values) w) p);
              lists = o;
            }

    pub file_put_lem : (r : ℕ) (w' : List ℕ) → PutRead a w r w' → ReadFileWords trace w f s d r w' f' s' d'
    file_put_lem r w' p = go a refl p
      where
        go : (x : Result (Settings × ℕ) Refusal) → a ≡ x → PutRead x w r w' → ReadFileWords trace w f s d r w' f' s' d'
        go (Err x) q p = let z = file_refused x q in record { answer = p.answer ∙ z.answer; settings = p.settings ∙ z.settings; lists = z.lists }
        go (Ok (st, n)) q p = let z = file_done st n q in record { answer = p.answer ∙ z.answer; settings = p.settings ∙ z.settings; lists = z.lists }
