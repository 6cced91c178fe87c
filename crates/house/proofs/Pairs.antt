-- From one house, and from two that talk by radio, to all of them: what is owed (PairProof), and from it the promise for every list of items (all_right).
use Rattle.std.proofs.Common.{◌≡◌, ℕ, zero, suc, ◌<◌, ◌≤◌, Bool, true, false, ◌&&◌, eqb, ltb, ◌≢◌, ◌⊎◌, List, [], ◌∷◌, length, sym, refl, ap, ◌∙◌, subst, inl, inr, arith, ltb-true, eq-eqb}
use mathlib.Core.Bool.{false≢true}
use native.Mathlib.Decide.{ℕ_discrete}
use Rattle.std.proofs.lemmas.Bool.{cases_Bool}
use Rattle.model.specs.Mail.{pick}
use Rattle.model.specs.House.{Command, push, House, Plain, house_at, set_house, pushed, can_know}
use Rattle.model.specs.Device.{Device, stopped}
use Rattle.model.specs.Run.{Engine, on, said, World, Ran, ran, Item, power, power_stops, whole, stops, falls, flag, set_flag, not_up, proper, world_at, set_world, no_world, powered, dark, woken, fell_as, ran_as, worlds_after, Right, so_many, new_world, running}
use Rattle.model.specs.Promise.{peer, from_bytes, May, Mid, PushMay, IsPush, first_house}
use Rattle.model.specs.Always.{Reached, begun, StaysReached}
use Rattle.model.proofs.Always.{sound_of}
use Rattle.model.proofs.Stays.{stays_reached}
use Rattle.model.proofs.Pushing.{knowing, after_more, pushed_is}
use Rattle.house.proofs.Course.{Course, acts, whole_run, cut_run}
use Rattle.house.proofs.Talk.{Ended, whole_talk, cut_talk, nobody_there}
use Rattle.house.proofs.Pushing.{Radio, Quiet, radio_or_quiet, push_goes}
use Rattle.house.proofs.Pushes.{PushTalk, PushSafe, PushOver, PushLost, PushFell, PushedUp, PushedDown, DarkTalk, DarkSafe, DarkOver, over_may, lost_may, fell_may, dark_may}
use Rattle.house.proofs.Places.{world_same, world_other, world_back, world_again, world_swap, worlds_count, house_same, house_other, house_back, houses_count, flag_same, flag_other, flag_back, flags_count, flag_below, and_left, and_right, start_world, start_house, start_flag, count_many}

-- What is owed of one house, and of two of which one pushes to the other. A number b says how many items may still come.
pub record PairProof (known : Command → Bool) (e : Engine) (pages houses : ℕ) : Type 1 where
  -- house c at rest and with power stands for a plain house; its pages do, while it has no power
  pub Up : ℕ → ℕ → House → World → Type 0
  pub Down : ℕ → ℕ → House → Device → Type 0
  pub powered_up : (b c : ℕ) (h : House) (v : World) → Up b c h v → v.up ≡ true
  pub sized : (b c : ℕ) (h : House) (d : Device) → Down b c h d → length d.pages ≡ pages
  pub fewer_up : (b c : ℕ) (h : House) (v : World) → Up (suc b) c h v → Up b c h v
  pub fewer_down : (b c : ℕ) (h : House) (d : Device) → Down (suc b) c h d → Down b c h d
  -- a stop at rest
  pub at_rest : (b c : ℕ) (h : House) (v : World) → Up b c h v → (cs : List ℕ) → Down b c h (stopped v.device cs)
  -- power comes
  pub wakes : (b c : ℕ) (h : House) (v : World) → c < houses → Down b c h v.device →
      (w : World) × Course e (λ d ss. (ss ≡ []) × ((cs : List ℕ) → Down b c h (stopped d cs))) w [] 0 (powered e v) (on c houses pages) [] × Up b c h w
  -- a text that is no push to another house that is there
  pub does : (b c : ℕ) (s : Plain) (v : World) (text : List ℕ) (ls : ℕ) (up : Bool) → c < houses → length s ≡ houses → Up (suc b) c (house_at s c) v → Reached houses s → Quiet known houses c text →
      (h : House) × (w : World) × (ss : List (List ℕ)) × (end : ℕ)
      × May known pages s c text ls up ss end (set_house s c h)
      × Course e (λ d rs. (cs : List ℕ) → (g : House) × Mid known s c text rs (set_house s c g) × Down b c g (stopped d cs)) w ss end v (said text) []
      × Up b c h w
  -- a push to another house that has power: one talk, whatever the line carries, and wherever that house falls
  pub pushes : (b c d : ℕ) (s : Plain) (w v : World) (text : List ℕ) → c < houses → Reached houses s → Radio known houses c text d → Up (suc b) c (house_at s c) w → Up (suc b) d (house_at s d) v →
      PushTalk Up Down pages b c d s e 0 w v (said text)
  -- a push to a house that has none: nothing changes
  pub pushes_dark : (b c d : ℕ) (s : Plain) (w v : World) (text : List ℕ) → c < houses → Reached houses s → Radio known houses c text d → Up (suc b) c (house_at s c) w → v.up ≡ false →
      DarkTalk Up Down pages b c d s e 0 w v (said text)

module _ (known : Command → Bool) (e : Engine) (pages houses : ℕ) (few : houses ≤ 16) (P : PairProof known e pages houses) where
  abbrev State : ℕ → ℕ → Bool → World → House → Type 0
  State b c true v h = P.Up b c h v
  State b c false v h = (v.up ≡ false) × P.Down b c h v.device

  record Related (b : ℕ) (us : List Bool) (vs : List World) (s : Plain) : Type 0 where
    flags : length us ≡ houses
    worlds : length vs ≡ houses
    plain : length s ≡ houses
    each_house : (c : ℕ) → c < houses → State b c (flag us c) (world_at vs c) (house_at s c)

  fewer : (b c : ℕ) (u : Bool) (v : World) (h : House) → State (suc b) c u v h → State b c u v h
  fewer b c true v h x = P.fewer_up b c h v x
  fewer b c false v h x = (x.0, P.fewer_down b c h v.device x.1)

  weaker : (b : ℕ) (us : List Bool) (vs : List World) (s : Plain) → Related (suc b) us vs s → Related b us vs s
  weaker b us vs s r = record { flags = r.flags; worlds = r.worlds; plain = r.plain; each_house = λ c lt. fewer b c (flag us c) (world_at vs c) (house_at s c) (r.each_house c lt) }

  at_place : (b : ℕ) (us : List Bool) (vs : List World) (s : Plain) (c : ℕ) (u : Bool) (v : World) (h : House) → c < houses → Related b us vs s → State b c u v h
      → State b c (flag (set_flag us c u) c) (world_at (set_world vs c v) c) (house_at (set_house s c h) c)
  at_place b us vs s c u v h lt r x =
      let lu : c < length us = omega arith in
      let lv : c < length vs = omega arith in
      let ls : c < length s = omega arith in
      rw (flag_same us c u lu, world_same vs c v lv, house_same s c h ls) x

  elsewhere : (b : ℕ) (us : List Bool) (vs : List World) (s : Plain) (c d : ℕ) (u : Bool) (v : World) (h : House) → (c ≡ d → ⊥) → d < houses → Related b us vs s
      → State b d (flag (set_flag us c u) d) (world_at (set_world vs c v) d) (house_at (set_house s c h) d)
  elsewhere b us vs s c d u v h ne ltd r =
      rw (flag_other us c d u ne, world_other vs c d v ne, house_other s c d h ne) (r.each_house d ltd)

  -- one house is changed and the others stay
  changed : (b : ℕ) (us : List Bool) (vs : List World) (s : Plain) (c : ℕ) (u : Bool) (v : World) (h : House) → c < houses → Related b us vs s → State b c u v h
      → Related b (set_flag us c u) (set_world vs c v) (set_house s c h)
  changed b us vs s c u v h lt r x = record {
    flags = flags_count us c u ∙ r.flags;
    worlds = worlds_count vs c v ∙ r.worlds;
    plain = houses_count s c h ∙ r.plain;
    each_house = λ d ltd. by d ltd (ℕ_discrete c d);
  }
    where
      by : (d : ℕ) → d < houses → Dec (c ≡ d) → State b d (flag (set_flag us c u) d) (world_at (set_world vs c v) d) (house_at (set_house s c h) d)
      by d ltd (yes q) = subst (λ k. State b k (flag (set_flag us c u) k) (world_at (set_world vs c v) k) (house_at (set_house s c h) k)) q (at_place b us vs s c u v h lt r x)
      by d ltd (no q) = elsewhere b us vs s c d u v h q ltd r

  -- the same, where the plain houses stay as they are
  only_world : (b : ℕ) (us : List Bool) (vs : List World) (s : Plain) (c : ℕ) (u : Bool) (v : World) → c < houses → Related b us vs s → State b c u v (house_at s c)
      → Related b (set_flag us c u) (set_world vs c v) s
  only_world b us vs s c u v lt r x = subst (λ z. Related b (set_flag us c u) (set_world vs c v) z) (house_back s c) (changed b us vs s c u v (house_at s c) lt r x)

  -- a push: two houses are changed and the others stay
  changed_two : (b : ℕ) (us : List Bool) (vs : List World) (s : Plain) (c d : ℕ) (x y : Bool) (w v : World) (more know : ℕ) → c < houses → d < houses → c ≢ d → Related b us vs s
      → State b c x w (knowing (house_at s c) d know) → State b d y v (after_more s c d more)
      → Related b (set_flag (set_flag us d y) c x) (set_world (set_world vs d v) c w) (pushed s c d more know)
  changed_two b us vs s c d x y w v more know lc ld ne r here there =
      subst (λ z. Related b (set_flag (set_flag us d y) c x) (set_world (set_world vs d v) c w) z) (sym (pushed_is s c d more know ne))
      (changed b (set_flag us d y) (set_world vs d v) (set_house s d (after_more s c d more)) c x w (knowing (house_at s c) d know) lc
      (changed b us vs s d y v (after_more s c d more) ld r there) here)

  not_up_is : (us : List Bool) (c : ℕ) → not_up us c ≡ true → (c < length us) × (flag us c ≡ false)
  not_up_is us c h = (ltb-true c (length us) (and_left (ltb c (length us)) _ h), by (flag us c) (and_right (ltb c (length us)) _ h))
    where
      by : (u : Bool) → pick u false true ≡ true → u ≡ false
      by true h = absurd (false≢true h)
      by false h = refl

  dark_at : (b : ℕ) (us : List Bool) (vs : List World) (s : Plain) (c : ℕ) → c < houses → flag us c ≡ false → Related b us vs s → ((world_at vs c).up ≡ false) × P.Down b c (house_at s c) (world_at vs c).device
  dark_at b us vs s c lt f r = subst (λ u. State b c u (world_at vs c) (house_at s c)) f (r.each_house c lt)

  up_at : (b : ℕ) (us : List Bool) (vs : List World) (s : Plain) (c : ℕ) → c < houses → flag us c ≡ true → Related b us vs s → P.Up b c (house_at s c) (world_at vs c)
  up_at b us vs s c lt f r = subst (λ u. State b c u (world_at vs c) (house_at s c)) f (r.each_house c lt)

  abbrev Goal : List World → Plain → List Item → Type 0
  Goal vs s is = Right peer (May known pages) (Mid known) e vs s is

  -- what may be left can come about
  may_reached : (s : Plain) (c : ℕ) (text : List ℕ) (ls : ℕ) (up : Bool) (ss : List (List ℕ)) (end : ℕ) (s₁ : Plain) → c < houses → Reached houses s → May known pages s c text ls up ss end s₁ → Reached houses s₁
  unfolding StaysReached
  may_reached s c text ls up ss end s₁ lt r m = (stays_reached known houses pages s c text ss s₁ lt r).0 ls up end m

  mid_reached : (s : Plain) (c : ℕ) (text : List ℕ) (ss : List (List ℕ)) (s₁ : Plain) → c < houses → Reached houses s → Mid known s c text ss s₁ → Reached houses s₁
  unfolding StaysReached
  mid_reached s c text ss s₁ lt r m = (stays_reached known houses pages s c text ss s₁ lt r).1 m

  abbrev Waking : ℕ → ℕ → House → World → World → Type 0
  Waking b c h v w = Course e (λ d ss. (ss ≡ []) × ((cs : List ℕ) → P.Down b c h (stopped d cs))) w [] 0 (powered e v) (on c houses pages) []

  -- power comes
  power_run : (b c : ℕ) (h : House) (v w : World) (n : ℕ) → n ≡ houses → length v.device.pages ≡ pages → (k : Waking b c h v w) → woken e (acts k) c n v ≡ ran w no_world [] 0
  power_run b c h v w n en ep k = rw (en, ep) (whole_run e _ w [] 0 0 1000 0 no_world k)

  power_cut : (b c : ℕ) (h : House) (v w : World) (n m : ℕ) → n ≡ houses → length v.device.pages ≡ pages → (k : Waking b c h v w) →
      (woken e m c n v ≡ ran w no_world [] 0) ⊎ (((woken e m c n v).end ≡ running) × (((woken e m c n v).showed ≡ []) × ((cs : List ℕ) → P.Down b c h (stopped (woken e m c n v).here.device cs))) × ((woken e m c n v).there ≡ no_world))
  power_cut b c h v w n m en ep k = rw (en, ep) (cut_run e _ w [] 0 0 1000 0 no_world m k)

  -- what the induction over the items gives for the rest of them
  abbrev Rest : List Item → Type 0
  Rest is = (us : List Bool) (vs : List World) (s : Plain) → Related (length is) us vs s → Reached houses s → proper peer us is ≡ true → Goal vs s is

  down_at : (b : ℕ) (us : List Bool) (vs : List World) (s : Plain) (c : ℕ) → c < houses → flag us c ≡ false → Related (suc b) us vs s → P.Down b c (house_at s c) (world_at vs c).device
  down_at b us vs s c lt f r = P.fewer_down b c (house_at s c) (world_at vs c).device (dark_at (suc b) us vs s c lt f r).1

  power_item : (c : ℕ) (is : List Item) → Rest is → (us : List Bool) (vs : List World) (s : Plain) → Related (suc (length is)) us vs s → Reached houses s → c < houses → flag us c ≡ false → proper peer (set_flag us c true) is ≡ true → Goal vs s (power c ∷ is)
  unfolding Right
  power_item c is go us vs s r rd lt f pr =
      let b = length is in
      let D : P.Down b c (house_at s c) (world_at vs c).device = down_at b us vs s c lt f r in
      let k = P.wakes b c (house_at s c) (world_at vs c) lt D in
      let run : woken e (acts k.1) c (length vs) (world_at vs c) ≡ ran k.0 no_world [] 0 = power_run b c (house_at s c) (world_at vs c) k.0 (length vs) r.worlds (P.sized b c (house_at s c) (world_at vs c).device D) k.1 in (
        acts k.1,
        ap (λ z. z.end) run,
        ap (λ z. z.showed) run,
        subst (λ (z : Ran). Goal (set_world vs c z.here) s is) (sym run) (go (set_flag us c true) (set_world vs c k.0) s (only_world b us vs s c true k.0 lt (weaker b us vs s r) k.2) rd pr),
      )

  stays_dark : (b : ℕ) (us : List Bool) (vs : List World) (s : Plain) (c : ℕ) (v : World) → c < houses → flag us c ≡ false → Related (suc b) us vs s → v.up ≡ false → P.Down b c (house_at s c) v.device → Related b us (set_world vs c v) s
  stays_dark b us vs s c v lt f r u x = subst (λ z. Related b z (set_world vs c v) s) (flag_back us c false f) (only_world b us vs s c false v lt (weaker b us vs s r) (u, x))

  power_stops_item : (c n : ℕ) (cs : List ℕ) (is : List Item) → Rest is → (us : List Bool) (vs : List World) (s : Plain) → Related (suc (length is)) us vs s → Reached houses s → c < houses → flag us c ≡ false → proper peer us is ≡ true → Goal vs s (power_stops c n cs ∷ is)
  unfolding Right
  power_stops_item c n cs is go us vs s r rd lt f pr =
      let b = length is in
      let D : P.Down b c (house_at s c) (world_at vs c).device = down_at b us vs s c lt f r in
      let k = P.wakes b c (house_at s c) (world_at vs c) lt D in
      by k.0 k.2 (power_cut b c (house_at s c) (world_at vs c) k.0 (length vs) n r.worlds (P.sized b c (house_at s c) (world_at vs c).device D) k.1)
    where
      by : (w : World) → P.Up (length is) c (house_at s c) w →
          (woken e n c (length vs) (world_at vs c) ≡ ran w no_world [] 0) ⊎ (((woken e n c (length vs) (world_at vs c)).end ≡ running) × (((woken e n c (length vs) (world_at vs c)).showed ≡ []) × ((cs : List ℕ) → P.Down (length is) c (house_at s c) (stopped (woken e n c (length vs) (world_at vs c)).here.device cs))) × ((woken e n c (length vs) (world_at vs c)).there ≡ no_world)) →
          (((woken e n c (length vs) (world_at vs c)).end ≡ 0) ⊎ ((woken e n c (length vs) (world_at vs c)).end ≡ 1000)) × ((woken e n c (length vs) (world_at vs c)).showed ≡ [])
          × Goal (set_world vs c (dark (woken e n c (length vs) (world_at vs c)).here cs)) s is
      by w u (inl run) = (
        inl (ap (λ z. z.end) run),
        ap (λ z. z.showed) run,
        subst (λ (z : Ran). Goal (set_world vs c (dark z.here cs)) s is) (sym run)
            (go us (set_world vs c (dark w cs)) s (stays_dark (length is) us vs s c (dark w cs) lt f r refl (P.at_rest (length is) c (house_at s c) w u cs)) rd pr),
      )
      by w u (inr q) = (
        inr q.0,
        q.1.0,
        go us (set_world vs c (dark (woken e n c (length vs) (world_at vs c)).here cs)) s (stays_dark (length is) us vs s c (dark (woken e n c (length vs) (world_at vs c)).here cs) lt f r refl (q.1.1 cs)) rd pr,
      )

  worlds_back : (vs : List World) (c : ℕ) (text : List ℕ) (q : Ran) (v : World) → q.there ≡ world_at vs (peer c text) → worlds_after peer vs c text q v ≡ set_world vs c v
  worlds_back vs c text q v h = rw h (ap (λ (z : List World). set_world z c v) (world_back vs (peer c text)))

  -- A command that one house does by itself.

  -- it goes to its end
  whole_item : (c : ℕ) (text : List ℕ) (ls : ℕ) (is : List Item) → Rest is → (us : List Bool) (vs : List World) (s : Plain) → Related (suc (length is)) us vs s → Reached houses s → c < houses → flag us c ≡ true → Quiet known houses c text → proper peer us is ≡ true → Goal vs s (whole c text ls ∷ is)
  unfolding Right
  whole_item c text ls is go us vs s r rd lt f qt pr =
      let b = length is in
      let k = P.does b c s (world_at vs c) text ls (world_at vs (peer c text)).up lt r.plain (up_at (suc b) us vs s c lt f r) rd qt in
      let run : ran_as peer e (acts k.5) vs c text ls ≡ ran k.1 (world_at vs (peer c text)) k.2 k.3 = whole_run e _ k.1 k.2 k.3 0 (peer c text) ls (world_at vs (peer c text)) k.5 in (
        acts k.5,
        set_house s c k.0,
        subst (λ (z : Ran). May known pages s c text ls (world_at vs (peer c text)).up z.showed z.end (set_house s c k.0)) (sym run) k.4,
        subst (λ (z : Ran). Goal (worlds_after peer vs c text z z.here) (set_house s c k.0) is) (sym run)
            (subst (λ (z : List World). Goal z (set_house s c k.0) is) (sym (worlds_back vs c text (ran k.1 (world_at vs (peer c text)) k.2 k.3) k.1 refl))
            (go us (set_world vs c k.1) (set_house s c k.0) (subst (λ z. Related b z (set_world vs c k.1) (set_house s c k.0)) (flag_back us c true f) (changed b us vs s c true k.1 k.0 lt (weaker b us vs s r) k.6))
            (may_reached s c text ls _ _ _ _ lt rd k.4) pr)),
      )

  -- power stops in the middle of it
  stops_item : (c : ℕ) (text : List ℕ) (ls n : ℕ) (cs : List ℕ) (is : List Item) → Rest is → (us : List Bool) (vs : List World) (s : Plain) → Related (suc (length is)) us vs s → Reached houses s → c < houses → flag us c ≡ true → Quiet known houses c text → proper peer (set_flag us c false) is ≡ true → Goal vs s (stops c text ls n cs ∷ is)
  unfolding Right
  stops_item c text ls n cs is go us vs s r rd lt f qt pr =
      let b = length is in
      let k = P.does b c s (world_at vs c) text ls (world_at vs (peer c text)).up lt r.plain (up_at (suc b) us vs s c lt f r) rd qt in
      by k.0 k.1 k.2 k.3 k.4 k.6 (cut_run e _ k.1 k.2 k.3 0 (peer c text) ls (world_at vs (peer c text)) n k.5)
    where
      run : Ran
      run = ran_as peer e n vs c text ls

      left_dark : (g : House) (v : World) → run.there ≡ world_at vs (peer c text) → P.Down (length is) c g (stopped v.device cs) → Reached houses (set_house s c g) → Goal (worlds_after peer vs c text run (dark v cs)) (set_house s c g) is
      left_dark g v th x rd₁ = subst (λ (z : List World). Goal z (set_house s c g) is) (sym (worlds_back vs c text run (dark v cs) th)) (go (set_flag us c false) (set_world vs c (dark v cs)) (set_house s c g) (changed (length is) us vs s c false (dark v cs) g lt (weaker (length is) us vs s r) (refl, x)) rd₁ pr)

      by : (h : House) (w : World) (ss : List (List ℕ)) (end : ℕ) → May known pages s c text ls (world_at vs (peer c text)).up ss end (set_house s c h) → P.Up (length is) c h w →
          (run ≡ ran w (world_at vs (peer c text)) ss end) ⊎ ((run.end ≡ running) × ((cs : List ℕ) → (g : House) × Mid known s c text run.showed (set_house s c g) × P.Down (length is) c g (stopped run.here.device cs)) × (run.there ≡ world_at vs (peer c text))) →
          (s₁ : Plain) × (May known pages s c text ls (world_at vs (peer c text)).up run.showed run.end s₁ ⊎ ((run.end ≡ 1000) × Mid known s c text run.showed s₁))
          × Goal (worlds_after peer vs c text run (dark run.here cs)) s₁ is
      by h w ss end may u (inl q) = (
        set_house s c h,
        inl (subst (λ (z : Ran). May known pages s c text ls (world_at vs (peer c text)).up z.showed z.end (set_house s c h)) (sym q) may),
        left_dark h run.here (ap (λ z. z.there) q) (subst (λ (z : Ran). P.Down (length is) c h (stopped z.here.device cs)) (sym q) (P.at_rest (length is) c h w u cs)) (may_reached s c text ls _ _ _ _ lt rd may),
      )
      by h w ss end may u (inr q) = (set_house s c (q.1 cs).0, inr (q.0, (q.1 cs).1), left_dark (q.1 cs).0 run.here q.2 (q.1 cs).2 (mid_reached s c text _ _ lt rd (q.1 cs).1))

  -- a house at rest loses power, and nothing else happens
  goes_dark : (b : ℕ) (us : List Bool) (vs : List World) (s : Plain) (d : ℕ) (cs : List ℕ) → d < houses → flag us d ≡ true → Related b us vs s → Related b (set_flag us d false) (set_world vs d (dark (world_at vs d) cs)) s
  goes_dark b us vs s d cs lt f r = only_world b us vs s d false (dark (world_at vs d) cs) lt r (refl, P.at_rest b d (house_at s d) (world_at vs d) (up_at b us vs s d lt f r) cs)

  -- power stops at the other house
  falls_item : (c : ℕ) (text : List ℕ) (ls t : ℕ) (cs : List ℕ) (is : List Item) → Rest is → (us : List Bool) (vs : List World) (s : Plain) → Related (suc (length is)) us vs s → Reached houses s → c < houses → flag us c ≡ true
      → peer c text < houses → flag us (peer c text) ≡ true → (c ≡ peer c text → ⊥) → Quiet known houses c text → proper peer (set_flag us (peer c text) false) is ≡ true → Goal vs s (falls c text ls t cs ∷ is)
  unfolding Right
  falls_item c text ls t cs is go us vs s r rd lt f ltd fd ne qt pr =
      let b = length is in
      let d = peer c text in
      let k = P.does b c s (world_at vs c) text ls (world_at vs d).up lt r.plain (up_at (suc b) us vs s c lt f r) rd qt in
      let run : fell_as peer e t (acts k.5) vs c text ls ≡ ran k.1 (world_at vs d) k.2 k.3 = whole_run e _ k.1 k.2 k.3 t d ls (world_at vs d) k.5 in
      let now_is : Related b us (set_world vs c k.1) (set_house s c k.0) = subst (λ z. Related b z (set_world vs c k.1) (set_house s c k.0)) (flag_back us c true f) (changed b us vs s c true k.1 k.0 lt (weaker b us vs s r) k.6) in
      let there : world_at (set_world vs c k.1) d ≡ world_at vs d = world_other vs c d k.1 ne in (
        acts k.5,
        set_house s c k.0,
        subst (λ (z : Ran). May known pages s c text ls (world_at vs d).up z.showed z.end (set_house s c k.0)) (sym run) k.4,
        subst (λ (z : Ran). Goal (set_world (worlds_after peer vs c text z z.here) d (dark z.there cs)) (set_house s c k.0) is) (sym run)
            (subst (λ (z : List World). Goal (set_world z d (dark (world_at vs d) cs)) (set_house s c k.0) is) (sym (worlds_back vs c text (ran k.1 (world_at vs d) k.2 k.3) k.1 refl))
            (go (set_flag us d false) (set_world (set_world vs c k.1) d (dark (world_at vs d) cs)) (set_house s c k.0)
            (subst (λ (z : World). Related b (set_flag us d false) (set_world (set_world vs c k.1) d (dark z cs)) (set_house s c k.0)) there (goes_dark b us (set_world vs c k.1) (set_house s c k.0) d cs ltd fd now_is))
            (may_reached s c text ls _ _ _ _ lt rd k.4) pr)),
      )

  -- A push to another house that is there.

  push_may : (s : Plain) (c d : ℕ) (text : List ℕ) (ls : ℕ) (up : Bool) (ss : List (List ℕ)) (end : ℕ) (s₁ : Plain) → length s ≡ houses → Radio known houses c text d
      → PushMay pages s c d ls up ss end s₁ → May known pages s c text ls up ss end s₁
  unfolding May IsPush
  push_may s c d text ls up ss end s₁ l R m =
      inl (push d, R.said, R.knows, inr (d, refl, inr (push_goes (length s) c d (house_at s c) (subst (λ n. d < n) (sym l) R.there) R.apart, m)))

  push_mid : (s : Plain) (c d : ℕ) (text : List ℕ) (ss : List (List ℕ)) (more know : ℕ) → length s ≡ houses → Radio known houses c text d → ss ≡ [] → can_know s c d more know ≡ true
      → Mid known s c text ss (pushed s c d more know)
  unfolding Mid
  push_mid s c d text ss more know l R q can =
      inr (inr (d, R.said, R.knows, push_goes (length s) c d (house_at s c) (subst (λ n. d < n) (sym l) R.there) R.apart, q, more, know, can, refl))

  nothing_mid : (s : Plain) (c : ℕ) (text : List ℕ) (ss : List (List ℕ)) → ss ≡ [] → Mid known s c text ss s
  unfolding Mid
  nothing_mid s c text ss q = inl (refl, inl q)

  module _ (b c d : ℕ) (s : Plain) (ls : ℕ) (up : Bool) where
    abbrev PushEnded : ℕ → Ran → Type 0
    PushEnded t r = Ended e d (PushSafe P.Up P.Down pages b c d s) (PushOver P.Up P.Down pages b c d s) (PushLost P.Up P.Down pages b c d s) (PushFell P.Up P.Down pages b c d s) t ls r

    abbrev LeftUp : Ran → Type 0
    LeftUp r = PushedUp P.Up P.Down pages b c d s ls up r.here r.there r.showed r.end

    abbrev LeftDown : List ℕ → Ran → Type 0
    LeftDown cs r = PushedDown P.Up P.Down pages b c d s ls up r.here (stopped r.there.device cs) r.showed r.end

    -- ended, with the other at rest
    left_up : (r : Ran) → PushEnded 0 r → LeftUp r
    left_up r (inl o) = over_may P.Up P.Down pages b c d s ls up r.here r.there r.showed r.end o
    left_up r (inr o) = lost_may P.Up P.Down pages b c d s ls up r.here r.there r.showed r.end o

    -- ended, and the other loses its power then, or fell before
    then_down : (cs : List ℕ) (r : Ran) → LeftUp r → LeftDown cs r
    then_down cs r o = record { more = o.more; know = o.know; may = o.may; here = o.here; there = P.at_rest b d (after_more s c d o.more) r.there o.there cs }

    left_down : (t : ℕ) (cs : List ℕ) (r : Ran) → PushEnded t r → LeftDown cs r
    left_down zero cs r x = then_down cs r (left_up r x)
    left_down (suc t) cs r (inl o) = then_down cs r (over_may P.Up P.Down pages b c d s ls up r.here r.there r.showed r.end o)
    left_down (suc t) cs r (inr o) = fell_may P.Up P.Down pages b c d s ls up r.here r.there.device r.showed r.end cs o

  -- flags that are set to what they are
  there_back : (us : List Bool) (c d : ℕ) (x : Bool) → flag us d ≡ true → set_flag (set_flag us d true) c x ≡ set_flag us c x
  there_back us c d x fd = ap (λ (z : List Bool). set_flag z c x) (flag_back us d true fd)

  here_back : (us : List Bool) (c d : ℕ) (x : Bool) → c ≢ d → flag us c ≡ true → set_flag (set_flag us d x) c true ≡ set_flag us d x
  here_back us c d x ne f = flag_back (set_flag us d x) c true (flag_other us d c x (λ q. ne (sym q)) ∙ f)

  -- it goes to its end
  whole_push : (c : ℕ) (text : List ℕ) (ls : ℕ) (is : List Item) → Rest is → (us : List Bool) (vs : List World) (s : Plain) → Related (suc (length is)) us vs s → Reached houses s → c < houses → flag us c ≡ true
      → Radio known houses c text (peer c text) → flag us (peer c text) ≡ true → proper peer us is ≡ true → Goal vs s (whole c text ls ∷ is)
  unfolding Right
  whole_push c text ls is go us vs s r rd lt f R fd pr =
      let b = length is in
      let d = peer c text in
      let talk = P.pushes b c d s (world_at vs c) (world_at vs d) text lt rd R (up_at (suc b) us vs s c lt f r) (up_at (suc b) us vs s d R.there fd r) in
      let run = whole_talk e d _ _ _ _ talk 0 ls ls (omega arith) in
      let q : Ran = ran_as peer e run.0 vs c text ls in
      let o : LeftUp b c d s ls (world_at vs d).up q = left_up b c d s ls (world_at vs d).up q run.1 in
      let s₁ : Plain = pushed s c d o.more o.know in
      let may : May known pages s c text ls (world_at vs d).up q.showed q.end s₁ = push_may s c d text ls (world_at vs d).up q.showed q.end s₁ r.plain R o.may in (
        run.0,
        s₁,
        may,
        go us (worlds_after peer vs c text q q.here) s₁
            (subst (λ z. Related b z (worlds_after peer vs c text q q.here) s₁) (there_back us c d true fd ∙ flag_back us c true f)
            (changed_two b us vs s c d true true q.here q.there o.more o.know lt R.there R.apart (weaker b us vs s r) o.here o.there))
            (may_reached s c text ls (world_at vs d).up q.showed q.end s₁ lt rd may) pr,
      )

  -- power stops in the middle of it
  stops_push : (c : ℕ) (text : List ℕ) (ls n : ℕ) (cs : List ℕ) (is : List Item) → Rest is → (us : List Bool) (vs : List World) (s : Plain) → Related (suc (length is)) us vs s → Reached houses s → c < houses → flag us c ≡ true
      → Radio known houses c text (peer c text) → flag us (peer c text) ≡ true → proper peer (set_flag us c false) is ≡ true → Goal vs s (stops c text ls n cs ∷ is)
  unfolding Right
  stops_push c text ls n cs is go us vs s r rd lt f R fd pr =
      by (cut_talk e d _ _ _ _ (P.pushes b c d s (world_at vs c) (world_at vs d) text lt rd R (up_at (suc b) us vs s c lt f r) (up_at (suc b) us vs s d R.there fd r)) n ls ls (omega arith))
    where
      b : ℕ
      b = length is

      d : ℕ
      d = peer c text

      q : Ran
      q = ran_as peer e n vs c text ls

      on_with : (more know : ℕ) → P.Down b c (knowing (house_at s c) d know) (stopped q.here.device cs) → P.Up b d (after_more s c d more) q.there → Reached houses (pushed s c d more know)
          → Goal (worlds_after peer vs c text q (dark q.here cs)) (pushed s c d more know) is
      on_with more know here there rd₁ = go (set_flag us c false) (worlds_after peer vs c text q (dark q.here cs)) (pushed s c d more know)
          (subst (λ z. Related b z (worlds_after peer vs c text q (dark q.here cs)) (pushed s c d more know)) (there_back us c d false fd)
          (changed_two b us vs s c d false true (dark q.here cs) q.there more know lt R.there R.apart (weaker b us vs s r) (refl, here) there)) rd₁ pr

      ended : LeftUp b c d s ls (world_at vs d).up q →
          (s₁ : Plain) × (May known pages s c text ls (world_at vs d).up q.showed q.end s₁ ⊎ ((q.end ≡ 1000) × Mid known s c text q.showed s₁))
          × Goal (worlds_after peer vs c text q (dark q.here cs)) s₁ is
      ended o =
          let s₁ : Plain = pushed s c d o.more o.know in
          let may : May known pages s c text ls (world_at vs d).up q.showed q.end s₁ = push_may s c d text ls (world_at vs d).up q.showed q.end s₁ r.plain R o.may in
          (s₁, inl may, on_with o.more o.know (P.at_rest b c (knowing (house_at s c) d o.know) q.here o.here cs) o.there (may_reached s c text ls (world_at vs d).up q.showed q.end s₁ lt rd may))

      by : (PushEnded b c d s ls (world_at vs d).up 0 q) ⊎ ((q.end ≡ running) × PushSafe P.Up P.Down pages b c d s q.here.device q.there q.showed) →
          (s₁ : Plain) × (May known pages s c text ls (world_at vs d).up q.showed q.end s₁ ⊎ ((q.end ≡ 1000) × Mid known s c text q.showed s₁))
          × Goal (worlds_after peer vs c text q (dark q.here cs)) s₁ is
      by (inl x) = ended (left_up b c d s ls (world_at vs d).up q x)
      by (inr x) =
          let more : ℕ = x.1.0 in
          let k = x.1.2.1 cs in
          let mid : Mid known s c text q.showed (pushed s c d more k.0) = push_mid s c d text q.showed more k.0 r.plain R x.1.2.0 k.1 in
          (pushed s c d more k.0, inr (x.0, mid), on_with more k.0 k.2 x.1.1 (mid_reached s c text q.showed (pushed s c d more k.0) lt rd mid))

  -- power stops at the other house
  fell_worlds : (vs : List World) (c d : ℕ) (q : Ran) (gone : World) → c ≢ d → set_world (set_world (set_world vs d q.there) c q.here) d gone ≡ set_world (set_world vs d gone) c q.here
  fell_worlds vs c d q gone ne = world_swap (set_world vs d q.there) c d q.here gone ne ∙ ap (λ (z : List World). set_world z c q.here) (world_again vs d q.there gone)

  after_fall : (c : ℕ) (text : List ℕ) (ls : ℕ) (up : Bool) (cs : List ℕ) (is : List Item) → Rest is → (us : List Bool) (vs : List World) (s : Plain) → Related (suc (length is)) us vs s → c < houses → flag us c ≡ true
      → Radio known houses c text (peer c text) → proper peer (set_flag us (peer c text) false) is ≡ true → (q : Ran) (o : LeftDown (length is) c (peer c text) s ls up cs q) → Reached houses (pushed s c (peer c text) o.more o.know)
      → Goal (set_world (worlds_after peer vs c text q q.here) (peer c text) (dark q.there cs)) (pushed s c (peer c text) o.more o.know) is
  after_fall c text ls up cs is go us vs s r lt f R pr q o rd₁ =
      subst (λ (z : List World). Goal z (pushed s c (peer c text) o.more o.know) is) (sym (fell_worlds vs c (peer c text) q (dark q.there cs) R.apart))
      (go (set_flag us (peer c text) false) (set_world (set_world vs (peer c text) (dark q.there cs)) c q.here) (pushed s c (peer c text) o.more o.know)
      (subst (λ z. Related (length is) z (set_world (set_world vs (peer c text) (dark q.there cs)) c q.here) (pushed s c (peer c text) o.more o.know)) (here_back us c (peer c text) false R.apart f)
      (changed_two (length is) us vs s c (peer c text) true false q.here (dark q.there cs) o.more o.know lt R.there R.apart (weaker (length is) us vs s r) o.here (refl, o.there))) rd₁ pr)

  falls_push : (c : ℕ) (text : List ℕ) (ls t : ℕ) (cs : List ℕ) (is : List Item) → Rest is → (us : List Bool) (vs : List World) (s : Plain) → Related (suc (length is)) us vs s → Reached houses s → c < houses → flag us c ≡ true
      → Radio known houses c text (peer c text) → flag us (peer c text) ≡ true → proper peer (set_flag us (peer c text) false) is ≡ true → Goal vs s (falls c text ls t cs ∷ is)
  unfolding Right
  falls_push c text ls t cs is go us vs s r rd lt f R fd pr =
      let b = length is in
      let d = peer c text in
      let talk = P.pushes b c d s (world_at vs c) (world_at vs d) text lt rd R (up_at (suc b) us vs s c lt f r) (up_at (suc b) us vs s d R.there fd r) in
      let run = whole_talk e d _ _ _ _ talk t ls ls (omega arith) in
      let q : Ran = fell_as peer e t run.0 vs c text ls in
      let o : LeftDown b c d s ls (world_at vs d).up cs q = left_down b c d s ls (world_at vs d).up t cs q run.1 in
      let s₁ : Plain = pushed s c d o.more o.know in
      let may : May known pages s c text ls (world_at vs d).up q.showed q.end s₁ = push_may s c d text ls (world_at vs d).up q.showed q.end s₁ r.plain R o.may in
      (run.0, s₁, may, after_fall c text ls (world_at vs d).up cs is go us vs s r lt f R pr q o (may_reached s c text ls (world_at vs d).up q.showed q.end s₁ lt rd may))

  -- A push to a house without power.
  module _ (c : ℕ) (text : List ℕ) (ls : ℕ) (is : List Item) (go : Rest is) (us : List Bool) (vs : List World) (s : Plain) (r : Related (suc (length is)) us vs s) (rd : Reached houses s) (lt : c < houses) (f : flag us c ≡ true)
      (R : Radio known houses c text (peer c text)) (fd : flag us (peer c text) ≡ false) where
    abbrev nobody : (world_at vs (peer c text)).up ≡ false
    nobody = (dark_at (suc (length is)) us vs s (peer c text) R.there fd r).0

    abbrev DarkEnded : Ran → Type 0
    DarkEnded q = DarkOver P.Up P.Down pages (length is) c (peer c text) s q.here q.there q.showed q.end

    only_over : (q : Ran) → DarkEnded q ⊎ ⊥ → DarkEnded q
    only_over q (inl o) = o
    only_over q (inr x) = absurd x

    talks_dark : DarkTalk P.Up P.Down pages (length is) c (peer c text) s e 0 (world_at vs c) (world_at vs (peer c text)) (said text)
    talks_dark = P.pushes_dark (length is) c (peer c text) s (world_at vs c) (world_at vs (peer c text)) text lt rd R (up_at (suc (length is)) us vs s c lt f r) nobody

    stays_there : (n : ℕ) → (ran_as peer e n vs c text ls).there ≡ world_at vs (peer c text)
    stays_there n = nobody_there e (peer c text) _ _ _ _ talks_dark nobody n 0 ls

    says_dark : (q : Ran) → DarkEnded q → May known pages s c text ls (world_at vs (peer c text)).up q.showed q.end s
    says_dark q o = push_may s c (peer c text) text ls (world_at vs (peer c text)).up q.showed q.end s r.plain R
        (subst (λ up. PushMay pages s c (peer c text) ls up q.showed q.end s) (sym nobody)
        (dark_may P.Up P.Down pages (length is) c (peer c text) s R.apart ((sound_of rd).known c (peer c text) lt R.there) ls q.here q.there q.showed q.end o))

    whole_dark : proper peer us is ≡ true → Goal vs s (whole c text ls ∷ is)
    unfolding Right
    whole_dark pr =
        let b = length is in
        let run = whole_talk e (peer c text) _ _ _ _ talks_dark 0 ls ls (omega arith) in
        let q : Ran = ran_as peer e run.0 vs c text ls in
        let o : DarkEnded q = only_over q run.1 in (
          run.0,
          s,
          says_dark q o,
          subst (λ (z : List World). Goal z s is) (sym (worlds_back vs c text q q.here (stays_there run.0)))
              (go us (set_world vs c q.here) s (subst (λ z. Related b z (set_world vs c q.here) s) (flag_back us c true f) (only_world b us vs s c true q.here lt (weaker b us vs s r) o.here)) rd pr),
        )

    stops_dark : (n : ℕ) (cs : List ℕ) → proper peer (set_flag us c false) is ≡ true → Goal vs s (stops c text ls n cs ∷ is)
    unfolding Right
    stops_dark n cs pr = by (cut_talk e (peer c text) _ _ _ _ talks_dark n ls ls (omega arith))
      where
        q : Ran
        q = ran_as peer e n vs c text ls

        on_with : P.Down (length is) c (house_at s c) (stopped q.here.device cs) → Goal (worlds_after peer vs c text q (dark q.here cs)) s is
        on_with x = subst (λ (z : List World). Goal z s is) (sym (worlds_back vs c text q (dark q.here cs) (stays_there n)))
            (go (set_flag us c false) (set_world vs c (dark q.here cs)) s (only_world (length is) us vs s c false (dark q.here cs) lt (weaker (length is) us vs s r) (refl, x)) rd pr)

        by : ((DarkEnded q) ⊎ ⊥) ⊎ ((q.end ≡ running) × DarkSafe P.Up P.Down pages (length is) c (peer c text) s q.here.device q.there q.showed) →
            (s₁ : Plain) × (May known pages s c text ls (world_at vs (peer c text)).up q.showed q.end s₁ ⊎ ((q.end ≡ 1000) × Mid known s c text q.showed s₁))
            × Goal (worlds_after peer vs c text q (dark q.here cs)) s₁ is
        by (inl (inl o)) = (s, inl (says_dark q o), on_with (P.at_rest (length is) c (house_at s c) q.here o.here cs))
        by (inl (inr x)) = absurd x
        by (inr x) = (s, inr (x.0, nothing_mid s c text q.showed x.1.0), on_with (x.1.1 cs))

  -- All items.

  up_below : (b : ℕ) (us : List Bool) (vs : List World) (s : Plain) (c : ℕ) → Related b us vs s → flag us c ≡ true → c < houses
  up_below b us vs s c r f = let lt = flag_below us c f in omega arith

  picked : (a b : Bool) (n c : ℕ) → eqb n c ≡ b → pick a (pick b 1000 n) 1000 < houses → (c ≡ pick a (pick b 1000 n) 1000 → ⊥)
  picked false b n c h lt q = omega arith
  picked true true n c h lt q = omega arith
  picked true false n c h lt q = absurd (false≢true (sym h ∙ eq-eqb n c (sym q)))

  peer_other : (c : ℕ) (text : List ℕ) → peer c text < houses → (c ≡ peer c text → ⊥)
  unfolding peer
  peer_other c [] lt q = omega arith
  peer_other c (x ∷ xs) lt q = picked (eqb x 13) (eqb (from_bytes 0 xs) c) (from_bytes 0 xs) c refl lt q

  whole_any : (c : ℕ) (text : List ℕ) (ls : ℕ) (is : List Item) → Rest is → (us : List Bool) (vs : List World) (s : Plain) → Related (suc (length is)) us vs s → Reached houses s → c < houses → flag us c ≡ true → proper peer us is ≡ true → Goal vs s (whole c text ls ∷ is)
  whole_any c text ls is go us vs s r rd lt f pr = by (radio_or_quiet known houses c text) (cases_Bool (flag us (peer c text)))
    where
      by : Radio known houses c text (peer c text) ⊎ Quiet known houses c text → (flag us (peer c text) ≡ true) ⊎ (flag us (peer c text) ≡ false) → Goal vs s (whole c text ls ∷ is)
      by (inl R) (inl fd) = whole_push c text ls is go us vs s r rd lt f R fd pr
      by (inl R) (inr fd) = whole_dark c text ls is go us vs s r rd lt f R fd pr
      by (inr qt) x = whole_item c text ls is go us vs s r rd lt f qt pr

  stops_any : (c : ℕ) (text : List ℕ) (ls n : ℕ) (cs : List ℕ) (is : List Item) → Rest is → (us : List Bool) (vs : List World) (s : Plain) → Related (suc (length is)) us vs s → Reached houses s → c < houses → flag us c ≡ true → proper peer (set_flag us c false) is ≡ true → Goal vs s (stops c text ls n cs ∷ is)
  stops_any c text ls n cs is go us vs s r rd lt f pr = by (radio_or_quiet known houses c text) (cases_Bool (flag us (peer c text)))
    where
      by : Radio known houses c text (peer c text) ⊎ Quiet known houses c text → (flag us (peer c text) ≡ true) ⊎ (flag us (peer c text) ≡ false) → Goal vs s (stops c text ls n cs ∷ is)
      by (inl R) (inl fd) = stops_push c text ls n cs is go us vs s r rd lt f R fd pr
      by (inl R) (inr fd) = stops_dark c text ls is go us vs s r rd lt f R fd n cs pr
      by (inr qt) x = stops_item c text ls n cs is go us vs s r rd lt f qt pr

  right : (is : List Item) → Rest is
  unfolding proper
  right [] us vs s r rd pr = unfold Right in refl
  right (power c ∷ is) us vs s r rd pr =
      let f = not_up_is us c (and_left (not_up us c) _ pr) in
      power_item c is (right is) us vs s r rd (omega (arith, f.0, r.flags)) f.1 (and_right (not_up us c) _ pr)
  right (power_stops c n cs ∷ is) us vs s r rd pr =
      let f = not_up_is us c (and_left (not_up us c) _ pr) in
      power_stops_item c n cs is (right is) us vs s r rd (omega (arith, f.0, r.flags)) f.1 (and_right (not_up us c) _ pr)
  right (whole c text ls ∷ is) us vs s r rd pr =
      let f = and_left (flag us c) _ pr in
      whole_any c text ls is (right is) us vs s r rd (up_below _ us vs s c r f) f (and_right (flag us c) _ pr)
  right (stops c text ls n cs ∷ is) us vs s r rd pr =
      let f = and_left (flag us c) _ pr in
      stops_any c text ls n cs is (right is) us vs s r rd (up_below _ us vs s c r f) f (and_right (flag us c) _ pr)
  right (falls c text ls t cs ∷ is) us vs s r rd pr =
      let both = and_left (flag us c && flag us (peer c text)) _ pr in
      let f = and_left (flag us c) _ both in
      let fd = and_right (flag us c) _ both in
      let ltd = up_below _ us vs s (peer c text) r fd in
      let lt = up_below _ us vs s c r f in
      let rest = and_right (flag us c && flag us (peer c text)) _ pr in
      elim (radio_or_quiet known houses c text) [
        | inl R ↦ falls_push c text ls t cs is (right is) us vs s r rd lt f R fd rest
        | inr qt ↦ falls_item c text ls t cs is (right is) us vs s r rd lt f ltd fd (peer_other c text ltd) qt rest
      ]

  pub all_right : (is : List Item) → ((c : ℕ) → c < houses → P.Down (length is) c (first_house houses) (new_world pages).device) → proper peer (so_many houses false) is ≡ true
      → Goal (so_many houses (new_world pages)) (so_many houses (first_house houses)) is
  all_right is first pr = right is (so_many houses false) (so_many houses (new_world pages)) (so_many houses (first_house houses))
      (record {
        flags = count_many houses false;
        worlds = count_many houses (new_world pages);
        plain = count_many houses (first_house houses);
        each_house = λ c lt. rw (start_flag houses c, start_world pages houses c lt, start_house houses c (first_house houses) lt) (refl, first c lt);
      }) begun pr
