-- From one act of a command to the next, and to its end.
use Rattle.std.proofs.Common.{◌≡◌, ℕ, ◌+◌, ◌*◌, ◌≤◌, true, List, ◌++◌, length, take, drop, Some, sym, refl, ap, ◌∙◌, subst, eq-eqb, le-leb}
use Rattle.std.proofs.lemmas.List.{take_at}
use Rattle.model.specs.Run.{Event, page, next, lost, Act, read, write, flush, shows, send, done, refused}
use Rattle.house.specs.declared.Told.{Told}
use Rattle.house.specs.declared.Told.TheVariants.{Read, Write, Flush, Shows, Send, Done, No}
use Rattle.house.specs.Machine.{own}
use Rattle.house.specs.Entry.{ActTold}
use Rattle.house.specs.Told.{TellSays, tell_fits}
use Rattle.house.proofs.Taken.{start_length}
use Rattle.host.specs.Goes.{Answer, answered, answer_of, Means, Did, Goes, at_end, on_from, ToldBy, After, Ends}

-- a step on a memory of the right length and a long enough row is a step of the definition
told_by : (m : List ℕ) (ev : Event) (row : List ℕ) (r : Told) (m₁ row₁ : List ℕ) → length m ≡ 262144 → 131072 ≤ length row
    → TellSays m ev row (tell_fits m row) r m₁ row₁ → ToldBy m row ev r m₁ row₁
unfolding TellSays tell_fits
told_by m ev row r m₁ row₁ l o says =
    let fits : tell_fits m row ≡ true = rw (eq-eqb (length m) (length own.start) (l ∙ sym start_length), le-leb 131072 (length row) o) in
    subst (λ b. TellSays m ev row b r m₁ row₁) fits says

-- the same where memory and row are lent, and come back
pub told_lent : (m ms row rs : List ℕ) (n k : ℕ) (ev : Event) (r : Told) (m₁ row₁ rest more : List ℕ) → ms ≡ m → rs ≡ row → length ms ≡ 262144 → 131072 ≤ length rs
    → length m₁ ≡ n → length row₁ ≡ k → TellSays ms ev rs (tell_fits ms rs) r m₁ row₁ → ToldBy m row ev r (take n (m₁ ++ rest)) (take k (row₁ ++ more))
told_lent m ms row rs n k ev r m₁ row₁ rest more em er l o n₁ k₁ says =
    let t : ToldBy ms rs ev r m₁ row₁ = told_by ms ev rs r m₁ row₁ l o says in
    let u : ToldBy m row ev r m₁ row₁ = subst (λ x. ToldBy m x ev r m₁ row₁) er (subst (λ x. ToldBy x rs ev r m₁ row₁) em t) in
    subst (λ x. ToldBy m row ev r (take n (m₁ ++ rest)) x) (sym (take_at row₁ more k k₁)) (subst (λ x. ToldBy m row ev r x row₁) (sym (take_at m₁ rest n n₁)) u)

-- an act is told with the answer that it is
answer_told : (a : Act) (told : Told) (out out₁ : List ℕ) → ActTold a told out out₁ → answered a ≡ answer_of told
unfolding ActTold
answer_told (read k) told out out₁ h = ap answer_of (sym h.0)
answer_told (write k p) told out out₁ h = ap answer_of (sym h.0)
answer_told flush told out out₁ h = ap answer_of (sym h.0)
answer_told (shows s) told out out₁ h = ap answer_of (sym h.0)
answer_told (send d l) told out out₁ h = ap answer_of (sym h.0)
answer_told done told out out₁ h = ap answer_of (sym h.0)
answer_told (refused k) told out out₁ h = ap answer_of (sym h.0)

module _ {D R : Type 0} (w : Means D R) where
  -- what came of an act, by the act that the house asked for
  module _ (told : Told) (m row : List ℕ) (d : D) (r : R) (t : Told) (m₁ row₁ : List ℕ) where
    after_as : (told' : Told) (d₁ : D) (r₁ : R) → told ≡ told' → After w told' m row d r t m₁ row₁ d₁ r₁ → After w told m row d r t m₁ row₁ d₁ r₁
    after_as told' d₁ r₁ e a = subst (λ x. After w x m row d r t m₁ row₁ d₁ r₁) (sym e) a

    pub after_read : (k : ℕ) (into : List ℕ) (d₁ : D) → told ≡ Read k → length into ≡ 512 → w.gave d k into d₁ → ToldBy m row (page into) t m₁ row₁
        → After w told m row d r t m₁ row₁ d₁ r
    after_read k into d₁ e l g u = after_as (Read k) d₁ r e (into, l, g, refl, u)

    pub after_write : (k : ℕ) (part : List ℕ) (d₁ : D) → told ≡ Write k → part ≡ take 512 row → w.took d k part d₁ → ToldBy m row next t m₁ row₁
        → After w told m row d r t m₁ row₁ d₁ r
    after_write k part d₁ e p g u = after_as (Write k) d₁ r e (subst (λ x. w.took d k x d₁) p g, refl, u)

    pub after_flush : (d₁ : D) → told ≡ Flush → w.kept d d₁ → ToldBy m row next t m₁ row₁ → After w told m row d r t m₁ row₁ d₁ r
    after_flush d₁ e g u = after_as Flush d₁ r e (g, refl, u)

    pub after_shows : (n : ℕ) (part : List ℕ) (r₁ : R) → told ≡ Shows n → part ≡ take n row → w.showed r part r₁ → ToldBy m row next t m₁ row₁
        → After w told m row d r t m₁ row₁ d r₁
    after_shows n part r₁ e p g u = after_as (Shows n) d r₁ e (subst (λ x. w.showed r x r₁) p g, refl, u)

    pub after_send : (n : ℕ) → told ≡ Send n → ToldBy m row lost t m₁ row₁ → After w told m row d r t m₁ row₁ d r
    after_send n e u = after_as (Send n) d r e (refl, refl, u)

  -- a command is at its end
  pub ends_at : (told : Told) (m row : List ℕ) (d : D) (r : R) (answer : Answer) → answer_of told ≡ Some answer → Ends w told m row d r answer m d r
  ends_at told m row d r answer e m₀ row₀ ev t = at_end (answer_told (own.step m₀ ev).act told row₀ row t.1 ∙ e) t.0

  -- one act more: what ends from after it, ends from before it
  module _ (m row m₁ row₁ m' : List ℕ) (d d₁ d' : D) (r r₁ r' : R) (answer : Answer) (told₁ : Told) (ends : Ends w told₁ m₁ row₁ d₁ r₁ answer m' d' r') where
    -- the house was told of the act, and went on from there
    goes_on : (m₀ : List ℕ) (ev ev₁ : Event) → Did w (own.step m₀ ev).act d r ev₁ d₁ r₁ → m ≡ (own.step m₀ ev).memory → ToldBy m row ev₁ told₁ m₁ row₁ → Goes w m₀ d r ev answer m' d' r'
    goes_on m₀ ev ev₁ a e t = on_from d₁ r₁ ev₁ a (subst (λ x. Goes w x d₁ r₁ ev₁ answer m' d' r') e (ends m row ev₁ t))

    -- there was nothing to be told
    stays : (told : Told) (m₀ row₀ : List ℕ) (ev : Event) → told ≡ told₁ → m ≡ m₁ → row ≡ row₁ → d₁ ≡ d → r₁ ≡ r → ToldBy m₀ row₀ ev told m row → Goes w m₀ d r ev answer m' d' r'
    stays told m₀ row₀ ev t e f ed er u =
        subst (λ x. Goes w m₀ x r ev answer m' d' r') ed (subst (λ x. Goes w m₀ d₁ x ev answer m' d' r') er
        (ends m₀ row₀ ev (subst (λ x. ToldBy m₀ row₀ ev told₁ m₁ x) f (subst (λ x. ToldBy m₀ row₀ ev told₁ x row) e (subst (λ x. ToldBy m₀ row₀ ev x m row) t u)))))

    by_act : (a : Act) (told : Told) (m₀ row₀ : List ℕ) (ev : Event) → ActTold a told row₀ row → After w told m row d r told₁ m₁ row₁ d₁ r₁ → (own.step m₀ ev).act ≡ a
        → ToldBy m₀ row₀ ev told m row → Goes w m₀ d r ev answer m' d' r'
    unfolding ActTold
    by_act (read k) told m₀ row₀ ev h aft e t =
        let p : After w (Read k) m row d r told₁ m₁ row₁ d₁ r₁ = subst (λ x. After w x m row d r told₁ m₁ row₁ d₁ r₁) h.0 aft in
        goes_on m₀ ev (page p.0) (subst (λ x. Did w x d r (page p.0) d₁ r₁) (sym e) (p.0, refl, p.1, p.2, p.3)) t.0 p.4
    by_act (write k q) told m₀ row₀ ev h aft e t =
        let p : After w (Write k) m row d r told₁ m₁ row₁ d₁ r₁ = subst (λ x. After w x m row d r told₁ m₁ row₁ d₁ r₁) h.0 aft in
        let same : length q ≡ 512 → take 512 row ≡ q = λ l. ap (take 512) h.1 ∙ take_at q (drop (length q) row₀) 512 l in
        goes_on m₀ ev next (subst (λ x. Did w x d r next d₁ r₁) (sym e) (refl, (λ l. subst (λ x. w.took d k x d₁) (same l) p.0), p.1)) t.0 p.2
    by_act flush told m₀ row₀ ev h aft e t =
        let p : After w Flush m row d r told₁ m₁ row₁ d₁ r₁ = subst (λ x. After w x m row d r told₁ m₁ row₁ d₁ r₁) h.0 aft in
        goes_on m₀ ev next (subst (λ x. Did w x d r next d₁ r₁) (sym e) (refl, p.0, p.1)) t.0 p.2
    by_act (shows s) told m₀ row₀ ev h aft e t =
        let p : After w (Shows (length s)) m row d r told₁ m₁ row₁ d₁ r₁ = subst (λ x. After w x m row d r told₁ m₁ row₁ d₁ r₁) h.0 aft in
        let same : take (length s) row ≡ s = ap (take (length s)) h.1 ∙ take_at s (drop (length s) row₀) (length s) refl in
        goes_on m₀ ev next (subst (λ x. Did w x d r next d₁ r₁) (sym e) (refl, p.1, subst (λ x. w.showed r x r₁) same p.0)) t.0 p.2
    by_act (send c l) told m₀ row₀ ev h aft e t =
        let p : After w (Send (4097 * c + length l)) m row d r told₁ m₁ row₁ d₁ r₁ = subst (λ x. After w x m row d r told₁ m₁ row₁ d₁ r₁) h.0 aft in
        goes_on m₀ ev lost (subst (λ x. Did w x d r lost d₁ r₁) (sym e) (refl, p.0, p.1)) t.0 p.2
    by_act done told m₀ row₀ ev h aft e t =
        let p : After w Done m row d r told₁ m₁ row₁ d₁ r₁ = subst (λ x. After w x m row d r told₁ m₁ row₁ d₁ r₁) h.0 aft in
        stays told m₀ row₀ ev (h.0 ∙ sym p.0) (sym p.1) (sym p.2) p.3 p.4 t
    by_act (refused k) told m₀ row₀ ev h aft e t =
        let p : After w (No k) m row d r told₁ m₁ row₁ d₁ r₁ = subst (λ x. After w x m row d r told₁ m₁ row₁ d₁ r₁) h.0 aft in
        stays told m₀ row₀ ev (h.0 ∙ sym p.0) (sym p.1) (sym p.2) p.3 p.4 t

    pub earlier : (told : Told) → After w told m row d r told₁ m₁ row₁ d₁ r₁ → Ends w told m row d r answer m' d' r'
    earlier told aft m₀ row₀ ev t = by_act (own.step m₀ ev).act told m₀ row₀ ev t.1 aft refl t
