-- How an act is told, from its parts; and a place that is there, since the tests for it hold.
use Rattle.std.proofs.Common.{◌≡◌, ℕ, Bool, true, false, List, ◌++◌, length, drop, Some, None, Option, IsSome, Ok, Err, Result, MatchResult, sym, refl, ap, ◌∙◌, subst, arith}
use Rattle.std.specs.Option.{ok_or}
use Rattle.std.specs.Result.{IsErrAnd}
use Rattle.model.specs.Mail.{pick}
use Rattle.model.specs.Run.{Step, read, write, flush, shows, done, refused}
use Rattle.house.specs.declared.refusal.Refusal.{Refusal}
use Rattle.house.specs.declared.Told.{Told}
use Rattle.house.specs.declared.Told.TheVariants.{Read, Write, Flush, Shows, Done, No}
use Rattle.house.specs.Entry.{ActTold}
use Rattle.house.specs.Machine.{refuse}
use Rattle.house.specs.Told.{refusal_number}
use Rattle.house.specs.Does.{Does, Quietly, told_result}

pub told_read : (k k₁ : ℕ) → k₁ ≡ k → (out : List ℕ) → ActTold (read k) (Read k₁) out out
unfolding ActTold
told_read k k₁ e out = (ap Read e, refl)

pub told_write : (k k₁ : ℕ) (p out out₁ : List ℕ) → k₁ ≡ k → out₁ ≡ p ++ drop (length p) out → ActTold (write k p) (Write k₁) out out₁
unfolding ActTold
told_write k k₁ p out out₁ e o = (ap Write e, o)

pub told_shows : (n : ℕ) (s out out₁ : List ℕ) → n ≡ length s → out₁ ≡ s ++ drop (length s) out → ActTold (shows s) (Shows n) out out₁
unfolding ActTold
told_shows n s out out₁ e o = (ap Shows e, o)

pub told_flush : (out : List ℕ) → ActTold flush Flush out out
unfolding ActTold
told_flush out = (refl, refl)

pub told_done : (out : List ℕ) → ActTold done Done out out
unfolding ActTold
told_done out = (refl, refl)

pub told_refused : (k k₁ : ℕ) → k₁ ≡ k → (out : List ℕ) → ActTold (refused k) (No k₁) out out
unfolding ActTold
told_refused k k₁ e out = (ap No e, refl)

pub some_place : (t : Bool) (x place : ℕ) → t ≡ true → Some place ≡ pick t (Some x) None → place ≡ x
some_place t x place e h = let z : ◌≡◌ {A = Option ℕ} (Some place) (Some x) = h ∙ ap (λ b. pick b (Some x) None) e in cc

-- where the test holds a place is there
pub there : (t : Bool) (x : ℕ) (o : Option ℕ) → t ≡ true → o ≡ pick t (Some x) None → IsSome o
there t x o e h = subst IsSome (sym (h ∙ ap (λ b. pick b (Some x) None) e)) refl

-- whether a place is there tells the test
pub some_test : (t : Bool) (x place : ℕ) → Some place ≡ pick t (Some x) None → t ≡ true
some_test true x place h = refl
some_test false x place h = let y : ◌≡◌ {A = ℕ} 0 1 = cc in absurd (omega arith)

pub none_test : (t : Bool) (x : ℕ) → None ≡ pick t (Some x) None → t ≡ false
none_test true x h = let y : ◌≡◌ {A = ℕ} 0 1 = cc in absurd (omega arith)
none_test false x h = refl

-- what a step is, it may be said to do
pub does_as : {s s₁ : Step} (r : Told) (out l o : List ℕ) → s ≡ s₁ → Does s₁ r out l o → Does s r out l o
does_as r out l o e d = subst (λ x. Does x r out l o) (sym e) d

pub quietly_as : {s s₁ : Step} (r : Told) (l : List ℕ) → s ≡ s₁ → Quietly s₁ r l → Quietly s r l
quietly_as r l e q = subst (λ x. Quietly x r l) (sym e) q

pub refused_quietly : {s : Step} (m : List ℕ) (k k₁ : ℕ) → k₁ ≡ k → s ≡ refuse k m → Quietly s (No k₁) m
refused_quietly m k k₁ e f = quietly_as (No k₁) m f (refl, told_refused k k₁ e)

pub refused_does : {s : Step} (m out : List ℕ) (k k₁ : ℕ) → k₁ ≡ k → s ≡ refuse k m → Does s (No k₁) out m out
refused_does m out k k₁ e f = does_as (No k₁) out m out f (refl, told_refused k k₁ e out)

-- a refusal that is handed on where nothing is there
pub handed_on : {T : Type 0} (o : Option T) (e e₁ : Refusal) (r : Result Told Refusal) → Err e₁ ≡ ok_or o e → IsErrAnd r (λ x. x ≡ e₁) → (o ≡ None) × (told_result r ≡ No (refusal_number e))
handed_on None e e₁ (Ok x) h i = absurd i
handed_on None e e₁ (Err x) h i = (refl, let y : x ≡ e = cc in ap (λ z. No (refusal_number z)) y)
handed_on (Some x) e e₁ r h i = let y : ◌≡◌ {A = ℕ} 0 1 = cc in absurd (omega arith)

-- an act, or what a refusal is told as
pub told_from : (r : Result Told Refusal) (t : Told) → MatchResult r (λ x. t ≡ x) (λ e. t ≡ No (refusal_number e)) → t ≡ told_result r
told_from (Ok x) t h = h
told_from (Err e) t h = h
