-- A push letter by letter, and each letter in parts: from what is owed of one part, and of the end, to the whole talk. The counting of the line is done here.
use Rattle.std.proofs.Common.{◌≡◌, ℕ, zero, suc, ◌+◌, ◌<◌, ◌≤◌, true, List, [], ◌∷◌, length, take, drop, refl, ap, inl, inr, arith, length-drop}
use Rattle.model.specs.House.{House, Plain, Out, house_at, way_at, can_know, not_taken}
use Rattle.model.specs.Device.{Device}
use Rattle.model.specs.Run.{Engine, Event, heard, lost, send, World, in_memory, a_letter}
use Rattle.model.specs.Promise.{needs}
use Rattle.house.proofs.Fronts.{step_to}
use Rattle.house.proofs.Works.{Works, works_weaker, Goes}
use Rattle.house.proofs.Pushing.{cost, spent, needs_covers, spent_next}
use Rattle.house.proofs.Pushes.{Hears, here_knows, there_came, PusherSafe, NoRoom, PushTalk, push_works, push_calls, push_ends, letter_by_letter}

module _ (Up : ℕ → ℕ → House → World → Type 0) (Down : ℕ → ℕ → House → Device → Type 0) (pages b c d : ℕ) (s : Plain) (e : Engine)
    (At : ℕ → ℕ → World → World → Event → Type 0) (parts : Out → ℕ) where
  -- At more part w v ev: so many letters have come, and of the next one so many parts were heard; the pusher is about to go on with the rest of it. A letter goes in so
  -- many parts.

  -- the pusher comes to its end without the radio, and knows of so many letters then
  abbrev pub Alone : (more know end : ℕ) → World → Event → Type 0
  Alone more know end w ev = Goes e (PusherSafe Up Down pages b c d s more) (λ w₁. Up b c (here_knows Up Down pages b c d s know) w₁) [] end w ev []

  abbrev pub HearsLetter : (more more' : ℕ) → World → List ℕ → Type 0
  HearsLetter more more' v l = Hears e (Up b d) (Down b d) (there_came Up Down pages b c d s more) (there_came Up Down pages b c d s more') v l

  -- what a part that was heard leads to: the next part of the letter; the next letter; or an end, since there is no room for this one
  pub data Answered (more part : ℕ) (o : Out) (w v : World) (l : List ℕ) : Type 0 where
    goes_on : (H : HearsLetter more more v l) → suc part < parts o → At more (suc part) w H.after (heard H.reply) → Answered more part o w v l
    has_come : (H : HearsLetter more (suc more) v l) → At (suc more) 0 w H.after (heard H.reply) → Answered more part o w v l
    no_room : (H : HearsLetter more more v l) (know : ℕ) → can_know s c d more know ≡ true → NoRoom Up Down pages b c d s more → Alone more know 8 w (heard H.reply) → Answered more part o w v l

  -- the next act sends a part: how the pusher goes on without a line, and with the answer
  pub record SendsPart (more part : ℕ) (o : Out) (v w : World) (ev : Event) : Type 0 where
    pub letter : List ℕ
    pub memory : List ℕ
    pub sends : e.step w.memory ev ≡ step_to memory (send d letter)
    pub short : a_letter letter ≡ true
    pub safe : PusherSafe Up Down pages b c d s more w.device []
    pub know : ℕ
    pub can : can_know s c d more know ≡ true
    pub alone : Alone more know 9 (in_memory w memory) lost
    pub answer : Answered more part o (in_memory w memory) v letter

  module _ (powered : (h : House) (v : World) → Up b d h v → v.up ≡ true)
      (at_rest : (more part : ℕ) (w v : World) (ev : Event) → At more part w v ev → Up b d (there_came Up Down pages b c d s more) v)
      (some_parts : (o : Out) → 0 < parts o) (few_parts : (o : Out) → parts o ≤ cost o)
      (one_part : (more part : ℕ) (w v : World) (ev : Event) (o : Out) (rest : List Out) → drop more (not_taken s c d) ≡ o ∷ rest → part < parts o → At more part w v ev
      → (n : ℕ) × Works e (λ x. PusherSafe Up Down pages b c d s more x []) (λ w₁ ev₁. SendsPart more part o v w₁ ev₁) n w ev)
      (all_come : (w v : World) (ev : Event) → At (length (not_taken s c d)) 0 w v ev → Alone (length (not_taken s c d)) (length (way_at (house_at s c).ways d).waiting) 0 w ev) where
    abbrev Talks : ℕ → World → World → Event → Type 0
    Talks k w v ev = PushTalk Up Down pages b c d s e k w v ev

    -- the line has carried no more than it needed so far
    abbrev Carried : (k more part : ℕ) → Type 0
    Carried k more part = k ≤ 15 + spent (take more (not_taken s c d)) + part

    enough : (k more part : ℕ) (o : Out) (rest : List Out) → drop more (not_taken s c d) ≡ o ∷ rest → part < parts o → Carried k more part → k < needs s c d more
    enough k more part o rest q lt h =
        let x = few_parts o in
        let y = spent_next (not_taken s c d) more o rest q in
        let z = needs_covers s c d more in
        omega arith

    module _ (more : ℕ) (o : Out) (rest : List Out) (q : drop more (not_taken s c d) ≡ o ∷ rest)
        (next_letter : (k₁ : ℕ) (w₁ v₁ : World) (ev₁ : Event) → At (suc more) 0 w₁ v₁ ev₁ × Carried k₁ (suc more) 0 → Talks k₁ w₁ v₁ ev₁) where
      there_is : suc more ≤ length (not_taken s c d)
      there_is = let l : length (drop more (not_taken s c d)) ≡ suc (length rest) = ap length q in omega (arith, length-drop more (not_taken s c d))

      -- one part, given the talk from the next part on
      part_talk : (part : ℕ) → part < parts o → (k : ℕ) (v : World) → Up b d (there_came Up Down pages b c d s more) v → Carried k more part
          → ((k₁ : ℕ) (w₁ v₁ : World) (ev₁ : Event) → suc part < parts o → Carried k₁ more (suc part) → At more (suc part) w₁ v₁ ev₁ → Talks k₁ w₁ v₁ ev₁)
          → (w : World) (ev : Event) → SendsPart more part o v w ev → Talks k w v ev
      part_talk part lt k v up h next_part w ev z = by z.answer
        where
          calling : (more' : ℕ) → more ≤ more' → more' ≤ length (not_taken s c d) → (H : HearsLetter more more' v z.letter) → Talks (suc k) (in_memory w z.memory) H.after (heard H.reply) → Talks k w v ev
          calling more' le all H t =
              push_calls Up Down pages b c d s e powered k w.up w.device w.memory z.memory v ev z.letter more more' z.know z.sends z.short z.safe up z.can
              (enough k more part o rest q lt h) z.alone le all H t

          by : Answered more part o (in_memory w z.memory) v z.letter → Talks k w v ev
          by (goes_on H l y) = calling more (omega arith) (omega (arith, there_is)) H (next_part (suc k) (in_memory w z.memory) H.after (heard H.reply) l (omega arith) y)
          by (has_come H y) = calling (suc more) (omega arith) there_is H (next_letter (suc k) (in_memory w z.memory) H.after (heard H.reply)
              (y, let x = few_parts o in let m = spent_next (not_taken s c d) more o rest q in omega arith))
          by (no_room H know can room g) = calling more (omega arith) (omega (arith, there_is)) H
              (push_ends Up Down pages b c d s e (suc k) (in_memory w z.memory) H.after (heard H.reply) more know 8 H.at_rest (inr (refl, can, room)) g)

      -- all parts from one on
      parts_talk : (j part : ℕ) → part + suc j ≡ parts o → (k : ℕ) (w v : World) (ev : Event) → Carried k more part → At more part w v ev → Talks k w v ev
      parts_talk zero part h k w v ev l x =
          let g = one_part more part w v ev o rest q (omega arith) x in
          push_works Up Down pages b c d s e k v more g.0 w ev (at_rest more part w v ev x)
          (works_weaker e _ _ _ _ (λ y p. p) (part_talk part (omega arith) k v (at_rest more part w v ev x) l (λ k₁ w₁ v₁ ev₁ lt l₁ y. absurd (omega arith))) g.1 g.0 (omega arith))
      parts_talk (suc j) part h k w v ev l x =
          let g = one_part more part w v ev o rest q (omega arith) x in
          push_works Up Down pages b c d s e k v more g.0 w ev (at_rest more part w v ev x)
          (works_weaker e _ _ _ _ (λ y p. p) (part_talk part (omega arith) k v (at_rest more part w v ev x) l (λ k₁ w₁ v₁ ev₁ lt l₁ y. parts_talk j (suc part) (omega arith) k₁ w₁ v₁ ev₁ l₁ y)) g.1 g.0 (omega arith))

    -- from the first letter that has not come, after at most 15 letters of the line
    pub letters_talk : (k : ℕ) (w v : World) (ev : Event) → k ≤ 15 → At 0 0 w v ev → Talks k w v ev
    letters_talk k w v ev h x =
        letter_by_letter Up Down pages b c d s e (λ more k₁ w₁ v₁ ev₁. At more 0 w₁ v₁ ev₁ × Carried k₁ more 0)
        (λ k₁ w₁ v₁ ev₁ y. push_ends Up Down pages b c d s e k₁ w₁ v₁ ev₁ (length (not_taken s c d)) (length (way_at (house_at s c).ways d).waiting) 0 (at_rest _ 0 w₁ v₁ ev₁ y.0) (inl (refl, refl, refl)) (all_come w₁ v₁ ev₁ y.0))
        (λ more k₁ w₁ v₁ ev₁ o rest q y go. let l = some_parts o in by more k₁ w₁ v₁ ev₁ o rest q y go (parts o) refl)
        (length (not_taken s c d)) 0 (omega arith) k w v ev (x, omega arith)
      where
        by : (more k₁ : ℕ) (w₁ v₁ : World) (ev₁ : Event) (o : Out) (rest : List Out) → drop more (not_taken s c d) ≡ o ∷ rest → At more 0 w₁ v₁ ev₁ × Carried k₁ more 0
            → ((k₂ : ℕ) (w₂ v₂ : World) (ev₂ : Event) → At (suc more) 0 w₂ v₂ ev₂ × Carried k₂ (suc more) 0 → Talks k₂ w₂ v₂ ev₂) → (n : ℕ) → parts o ≡ n → Talks k₁ w₁ v₁ ev₁
        by more k₁ w₁ v₁ ev₁ o rest q y go zero h = let l = some_parts o in absurd (omega arith)
        by more k₁ w₁ v₁ ev₁ o rest q y go (suc j) h = parts_talk more o rest q go j 0 (omega arith) k₁ w₁ v₁ ev₁ y.1 y.0
