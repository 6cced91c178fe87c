-- When a step is taken and when it is refused, from the lengths and the kind that the code tests.
use Rattle.std.proofs.Common.{◌≡◌, ℕ, ◌+◌, ◌-◌, ◌<◌, ◌≤◌, Bool, true, false, ◌&&◌, List, [], ◌∷◌, ◌++◌, length, take, drop, sym, refl, ap, ◌∙◌, subst, append_assoc, length-append, length-drop, length-take-le, take-append-drop, arith, eq-eqb, ne_eqb, le-leb}
use borrow.Author.Tests.{lt-leb}
use Rattle.std.specs.Array.{IsWholeChunk, IsFirstChunk}
use Rattle.std.proofs.lemmas.List.{drop-append-le}
use Rattle.model.specs.Run.{Event, Act, read, write, flush, shows, send, done, refused, Step}
use Rattle.house.specs.declared.Told.{Told}
use Rattle.house.specs.declared.Told.TheVariants.{No}
use Rattle.house.specs.Memory.{memory_len}
use Rattle.house.specs.Machine.{own, stepped}
use Rattle.house.specs.Entry.{StepSays, step_fits, event_of, ActTold}
use Rattle.house.specs.Told.{Responds, TellSays, tell_fits, Exported, told_numbers}
use Rattle.pages.proofs.Words.{length_zeros}

pub start_length : length own.start ≡ 262144
unfolding own
start_length = length_zeros memory_len

and_false_right : (a : Bool) → a && false ≡ false
and_false_right true = refl
and_false_right false = refl

-- an act that is told in the front of a row
row_longer : (n : ℕ) (p out row₁ : List ℕ) → n ≤ length out → length row₁ ≡ n → row₁ ≡ p ++ drop (length p) (take n out) → row₁ ++ drop n out ≡ p ++ drop (length p) out
row_longer n p out row₁ h l e =
    let front : length (take n out) ≡ n = length-take-le n out h in
    let size : length row₁ ≡ length p + (n - length p) = ap length e ∙ length-append p (drop (length p) (take n out)) ∙ ap (λ k. length p + k) (length-drop (length p) (take n out) ∙ ap (λ k. k - length p) front) in
    ap (λ r. r ++ drop n out) e
    ∙ append_assoc p (drop (length p) (take n out)) (drop n out)
    ∙ ap (λ r. p ++ r) (sym (drop-append-le (length p) (take n out) (drop n out) (omega arith)) ∙ ap (drop (length p)) (take-append-drop n out))

act_longer : (a : Act) (r : Told) (n : ℕ) (out row₁ : List ℕ) → n ≤ length out → length row₁ ≡ n → ActTold a r (take n out) row₁ → ActTold a r out (row₁ ++ drop n out)
unfolding ActTold
act_longer (read k) r n out row₁ h l t = (t.0, ap (λ x. x ++ drop n out) t.1 ∙ take-append-drop n out)
act_longer (write k p) r n out row₁ h l t = (t.0, row_longer n p out row₁ h l t.1)
act_longer flush r n out row₁ h l t = (t.0, ap (λ x. x ++ drop n out) t.1 ∙ take-append-drop n out)
act_longer (shows s) r n out row₁ h l t = (t.0, row_longer n s out row₁ h l t.1)
act_longer (send d p) r n out row₁ h l t = (t.0, row_longer n p out row₁ h l t.1)
act_longer done r n out row₁ h l t = (t.0, ap (λ x. x ++ drop n out) t.1 ∙ take-append-drop n out)
act_longer (refused k) r n out row₁ h l t = (t.0, ap (λ x. x ++ drop n out) t.1 ∙ take-append-drop n out)

module _ (memory out : List ℕ) where
  pub untold_memory : (length memory ≡ 262144 → ⊥) → tell_fits memory out ≡ false
  unfolding tell_fits
  untold_memory n = rw (ne_eqb (length memory) (length own.start) (λ e. n (e ∙ start_length)))

  pub untold_out : length out < 131072 → tell_fits memory out ≡ false
  unfolding tell_fits
  untold_out h = rw (lt-leb 131072 (length out) h, and_false_right)

  pub not_told : (ev : Event) → tell_fits memory out ≡ false → TellSays memory ev out (tell_fits memory out) (No 0) memory out
  unfolding TellSays
  not_told ev f = rw f (refl, refl, refl)

  pub told : (ev : Event) (r : Told) (lent row memory₁ row₁ : List ℕ) → IsWholeChunk memory lent 262144 → IsFirstChunk out row 131072 → length row₁ ≡ 131072
      → Responds lent ev r row memory₁ row₁ → TellSays memory ev out (tell_fits memory out) r memory₁ (row₁ ++ drop 131072 out)
  unfolding TellSays tell_fits
  told ev r lent row memory₁ row₁ m o l a =
      let answered : Responds memory ev r (take 131072 out) memory₁ row₁ = subst (λ x. Responds memory ev r x memory₁ row₁) o.same (subst (λ x. Responds x ev r row memory₁ row₁) m.same a) in
      rw (eq-eqb (length memory) (length own.start) (m.long ∙ sym start_length), le-leb 131072 (length out) o.enough)
      (answered.0, act_longer (own.step memory ev).act r 131072 out row₁ o.enough l answered.1)

module _ (memory : List ℕ) (kind : ℕ) (bytes out : List ℕ) where
  pub fits : length memory ≡ 262144 → kind ≤ 5 → 131072 ≤ length out → step_fits memory kind bytes out ≡ true
  unfolding step_fits
  fits m k o = rw (eq-eqb (length memory) (length own.start) (m ∙ sym start_length), le-leb kind 5 k, le-leb 131072 (length out) o)

  pub unfit_memory : (length memory ≡ 262144 → ⊥) → step_fits memory kind bytes out ≡ false
  unfolding step_fits
  unfit_memory n = rw (ne_eqb (length memory) (length own.start) (λ e. n (e ∙ start_length)))

  pub unfit_out : length out < 131072 → step_fits memory kind bytes out ≡ false
  unfolding step_fits
  unfit_out h = rw (lt-leb 131072 (length out) h, and_false_right, and_false_right)

  pub unfit_kind : 5 < kind → step_fits memory kind bytes out ≡ false
  unfolding step_fits
  unfit_kind h = rw (lt-leb kind 5 h, and_false_right)

  pub refused_step : step_fits memory kind bytes out ≡ false → StepSays memory kind bytes out (step_fits memory kind bytes out) (No 0) memory out
  unfolding StepSays
  refused_step f = rw f (refl, refl, refl)

  -- what an event is told as, a kind and some bytes are
  both_fit : kind ≤ 5 → step_fits memory kind bytes out ≡ tell_fits memory out
  unfolding step_fits tell_fits
  both_fit k = rw (le-leb kind 5 k) refl

  both_say : (t : Bool) (r : Told) (memory₁ out₁ : List ℕ) (ev : Event) → ev ≡ event_of kind bytes → TellSays memory ev out t r memory₁ out₁ → StepSays memory kind bytes out t r memory₁ out₁
  unfolding StepSays TellSays
  both_say true r memory₁ out₁ ev e a = rw (← e) a
  both_say false r memory₁ out₁ ev e a = a

  pub taken_step : (r : Told) (memory₁ out₁ : List ℕ) (ev : Event) → length memory ≡ 262144 → kind ≤ 5 → 131072 ≤ length out → ev ≡ event_of kind bytes
      → Responds memory ev r out memory₁ out₁ → StepSays memory kind bytes out (step_fits memory kind bytes out) r memory₁ out₁
  unfolding StepSays
  taken_step r memory₁ out₁ ev m k o e a = rw (fits m k o, ← e) a

  pub told_step : (r : Told) (memory₁ out₁ : List ℕ) (ev : Event) → kind ≤ 5 → ev ≡ event_of kind bytes
      → TellSays memory ev out (tell_fits memory out) r memory₁ out₁ → StepSays memory kind bytes out (step_fits memory kind bytes out) r memory₁ out₁
  told_step r memory₁ out₁ ev k e a = rw (both_fit k) (both_say (tell_fits memory out) r memory₁ out₁ ev e a)

-- where the definition refuses, the memory and the row stay as they are
pub told_no : (memory : List ℕ) (ev : Event) (k : ℕ) (out : List ℕ) → stepped memory ev ≡ record { memory = memory; act = refused k } → Responds memory ev (No k) out memory out
unfolding own ActTold
told_no memory ev k out e = (sym (ap (λ (s : Step). s.memory) e), rw e (refl, refl))

-- a step for hosts in other languages
module _ (memory : List ℕ) (kind : ℕ) (bytes out told : List ℕ) where
  pub not_exported : (length told ≡ 2 → ⊥) → Exported memory kind bytes out told 0 memory out told
  unfolding Exported
  not_exported n = rw (ne_eqb (length told) 2 n) (refl, refl, refl, refl)

  pub exported : (r : Told) (p : ℕ × ℕ) (memory₁ out₁ : List ℕ) → length told ≡ 2 → StepSays memory kind bytes out (step_fits memory kind bytes out) r memory₁ out₁
      → p ≡ told_numbers r → Exported memory kind bytes out told 1 memory₁ out₁ (p.0 ∷ p.1 ∷ [])
  unfolding Exported
  exported r p memory₁ out₁ l says e = rw (eq-eqb (length told) 2 l) (refl, (r, says, ap (λ (q : ℕ × ℕ). q.0 ∷ q.1 ∷ []) e))
