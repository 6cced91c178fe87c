-- From one house to all of them: what is owed of one house (HouseProof), and from it the promise for every list of items (all_right).
use Rattle.std.proofs.Common.{◌≡◌, ℕ, suc, ◌<◌, ◌≤◌, Bool, true, false, ◌&&◌, eqb, ltb, ◌⊎◌, List, [], ◌∷◌, length, sym, refl, ap, ◌∙◌, subst, inl, inr, arith, ltb-true, eq-eqb}
use mathlib.Core.Bool.{false≢true}
use native.Mathlib.Decide.{ℕ_discrete}
use Rattle.model.specs.Mail.{pick}
use Rattle.model.specs.House.{Command, House, Plain, house_at, set_house}
use Rattle.model.specs.Device.{Device, stopped}
use Rattle.model.specs.Run.{Engine, on, said, World, Ran, ran, Item, power, power_stops, whole, stops, falls, flag, set_flag, not_up, proper, world_at, set_world, no_world, powered, dark, woken, fell_as, ran_as, worlds_after, Right, so_many, new_world, running}
use Rattle.model.specs.Promise.{peer, from_bytes, May, Mid, first_house}
use Rattle.house.proofs.Course.{Course, acts, whole_run, cut_run}
use Rattle.house.proofs.Places.{world_same, world_other, world_back, worlds_count, house_same, house_other, house_back, houses_count, flag_same, flag_other, flag_back, flags_count, flag_below, and_left, and_right, start_world, start_house, start_flag, count_many}

-- One house: what holds of it while it has power and is at rest, and what holds of its pages while it has none, for a plain house and so many items that may still come.
pub record HouseProof (known : Command → Bool) (e : Engine) (pages houses : ℕ) : Type 1 where
  pub Up : ℕ → ℕ → House → World → Type 0
  pub Down : ℕ → ℕ → House → Device → Type 0
  pub powered_up : (b c : ℕ) (h : House) (v : World) → Up b c h v → v.up ≡ true
  pub sized : (b c : ℕ) (h : House) (d : Device) → Down b c h d → length d.pages ≡ pages
  pub fewer_up : (b c : ℕ) (h : House) (v : World) → Up (suc b) c h v → Up b c h v
  pub fewer_down : (b c : ℕ) (h : House) (d : Device) → Down (suc b) c h d → Down b c h d
  pub at_rest : (b c : ℕ) (h : House) (v : World) → Up b c h v → (cs : List ℕ) → Down b c h (stopped v.device cs)
  pub wakes : (b c : ℕ) (h : House) (v : World) → c < houses → Down b c h v.device →
      (w : World) × Course e (λ d ss. (ss ≡ []) × ((cs : List ℕ) → Down b c h (stopped d cs))) w [] 0 (powered e v) (on c houses pages) [] × Up b c h w
  pub does : (b c : ℕ) (s : Plain) (v : World) (text : List ℕ) (ls : ℕ) (up : Bool) → c < houses → length s ≡ houses → Up (suc b) c (house_at s c) v →
      (h : House) × (w : World) × (ss : List (List ℕ)) × (end : ℕ)
      × May known pages s c text ls up ss end (set_house s c h)
      × Course e (λ d rs. (cs : List ℕ) → (g : House) × Mid known s c text rs (set_house s c g) × Down b c g (stopped d cs)) w ss end v (said text) []
      × Up b c h w

module _ (known : Command → Bool) (e : Engine) (pages houses : ℕ) (few : houses ≤ 16) (P : HouseProof known e pages houses) where
  abbrev State : ℕ → ℕ → Bool → World → House → Type 0
  State b c true v h = P.Up b c h v
  State b c false v h = P.Down b c h v.device

  record Related (b : ℕ) (us : List Bool) (vs : List World) (s : Plain) : Type 0 where
    flags : length us ≡ houses
    worlds : length vs ≡ houses
    plain : length s ≡ houses
    each_house : (c : ℕ) → c < houses → State b c (flag us c) (world_at vs c) (house_at s c)

  fewer : (b c : ℕ) (u : Bool) (v : World) (h : House) → State (suc b) c u v h → State b c u v h
  fewer b c true v h x = P.fewer_up b c h v x
  fewer b c false v h x = P.fewer_down b c h v.device x

  at_place : (b : ℕ) (us : List Bool) (vs : List World) (s : Plain) (c : ℕ) (u : Bool) (v : World) (h : House) → c < houses → Related (suc b) us vs s → State b c u v h
      → State b c (flag (set_flag us c u) c) (world_at (set_world vs c v) c) (house_at (set_house s c h) c)
  at_place b us vs s c u v h lt r x =
      let lu : c < length us = omega arith in
      let lv : c < length vs = omega arith in
      let ls : c < length s = omega arith in
      rw (flag_same us c u lu, world_same vs c v lv, house_same s c h ls) x

  elsewhere : (b : ℕ) (us : List Bool) (vs : List World) (s : Plain) (c d : ℕ) (u : Bool) (v : World) (h : House) → (c ≡ d → ⊥) → d < houses → Related (suc b) us vs s
      → State b d (flag (set_flag us c u) d) (world_at (set_world vs c v) d) (house_at (set_house s c h) d)
  elsewhere b us vs s c d u v h ne ltd r =
      rw (flag_other us c d u ne, world_other vs c d v ne, house_other s c d h ne) (fewer b d (flag us d) (world_at vs d) (house_at s d) (r.each_house d ltd))

  -- one house is changed and the others stay
  changed : (b : ℕ) (us : List Bool) (vs : List World) (s : Plain) (c : ℕ) (u : Bool) (v : World) (h : House) → c < houses → Related (suc b) us vs s → State b c u v h
      → Related b (set_flag us c u) (set_world vs c v) (set_house s c h)
  changed b us vs s c u v h lt r x = record {
    flags = flags_count us c u ∙ r.flags;
    worlds = worlds_count vs c v ∙ r.worlds;
    plain = houses_count s c h ∙ r.plain;
    each_house = λ d ltd. by d ltd (ℕ_discrete c d);
  }
    where
      by : (d : ℕ) → d < houses → Dec (c ≡ d) → State b d (flag (set_flag us c u) d) (world_at (set_world vs c v) d) (house_at (set_house s c h) d)
      by d ltd (yes q) = subst (λ k. State b k (flag (set_flag us c u) k) (world_at (set_world vs c v) k) (house_at (set_house s c h) k)) q (at_place b us vs s c u v h lt r x)
      by d ltd (no q) = elsewhere b us vs s c d u v h q ltd r

  -- the same, where the plain houses stay as they are
  only_world : (b : ℕ) (us : List Bool) (vs : List World) (s : Plain) (c : ℕ) (u : Bool) (v : World) → c < houses → Related (suc b) us vs s → State b c u v (house_at s c)
      → Related b (set_flag us c u) (set_world vs c v) s
  only_world b us vs s c u v lt r x = subst (λ z. Related b (set_flag us c u) (set_world vs c v) z) (house_back s c) (changed b us vs s c u v (house_at s c) lt r x)

  not_up_is : (us : List Bool) (c : ℕ) → not_up us c ≡ true → (c < length us) × (flag us c ≡ false)
  not_up_is us c h = (ltb-true c (length us) (and_left (ltb c (length us)) _ h), by (flag us c) (and_right (ltb c (length us)) _ h))
    where
      by : (u : Bool) → pick u false true ≡ true → u ≡ false
      by true h = absurd (false≢true h)
      by false h = refl

  dark_at : (b : ℕ) (us : List Bool) (vs : List World) (s : Plain) (c : ℕ) → c < houses → flag us c ≡ false → Related b us vs s → P.Down b c (house_at s c) (world_at vs c).device
  dark_at b us vs s c lt f r = subst (λ u. State b c u (world_at vs c) (house_at s c)) f (r.each_house c lt)

  up_at : (b : ℕ) (us : List Bool) (vs : List World) (s : Plain) (c : ℕ) → c < houses → flag us c ≡ true → Related b us vs s → P.Up b c (house_at s c) (world_at vs c)
  up_at b us vs s c lt f r = subst (λ u. State b c u (world_at vs c) (house_at s c)) f (r.each_house c lt)

  abbrev Goal : List World → Plain → List Item → Type 0
  Goal vs s is = Right peer (May known pages) (Mid known) e vs s is

  abbrev Waking : ℕ → ℕ → House → World → World → Type 0
  Waking b c h v w = Course e (λ d ss. (ss ≡ []) × ((cs : List ℕ) → P.Down b c h (stopped d cs))) w [] 0 (powered e v) (on c houses pages) []

  -- power comes
  power_run : (b c : ℕ) (h : House) (v w : World) (n : ℕ) → n ≡ houses → length v.device.pages ≡ pages → (k : Waking b c h v w) → woken e (acts k) c n v ≡ ran w no_world [] 0
  power_run b c h v w n en ep k = rw (en, ep) (whole_run e _ w [] 0 0 1000 0 no_world k)

  power_cut : (b c : ℕ) (h : House) (v w : World) (n m : ℕ) → n ≡ houses → length v.device.pages ≡ pages → (k : Waking b c h v w) →
      (woken e m c n v ≡ ran w no_world [] 0) ⊎ (((woken e m c n v).end ≡ running) × (((woken e m c n v).showed ≡ []) × ((cs : List ℕ) → P.Down b c h (stopped (woken e m c n v).here.device cs))) × ((woken e m c n v).there ≡ no_world))
  power_cut b c h v w n m en ep k = rw (en, ep) (cut_run e _ w [] 0 0 1000 0 no_world m k)

  -- what the induction over the items gives for the rest of them
  abbrev Rest : List Item → Type 0
  Rest is = (us : List Bool) (vs : List World) (s : Plain) → Related (length is) us vs s → proper peer us is ≡ true → Goal vs s is

  down_at : (b : ℕ) (us : List Bool) (vs : List World) (s : Plain) (c : ℕ) → c < houses → flag us c ≡ false → Related (suc b) us vs s → P.Down b c (house_at s c) (world_at vs c).device
  down_at b us vs s c lt f r = P.fewer_down b c (house_at s c) (world_at vs c).device (dark_at (suc b) us vs s c lt f r)

  power_item : (c : ℕ) (is : List Item) → Rest is → (us : List Bool) (vs : List World) (s : Plain) → Related (suc (length is)) us vs s → c < houses → flag us c ≡ false → proper peer (set_flag us c true) is ≡ true → Goal vs s (power c ∷ is)
  unfolding Right
  power_item c is go us vs s r lt f pr =
      let b = length is in
      let D : P.Down b c (house_at s c) (world_at vs c).device = down_at b us vs s c lt f r in
      let k = P.wakes b c (house_at s c) (world_at vs c) lt D in
      let run : woken e (acts k.1) c (length vs) (world_at vs c) ≡ ran k.0 no_world [] 0 = power_run b c (house_at s c) (world_at vs c) k.0 (length vs) r.worlds (P.sized b c (house_at s c) (world_at vs c).device D) k.1 in (
        acts k.1,
        ap (λ z. z.end) run,
        ap (λ z. z.showed) run,
        subst (λ (z : Ran). Goal (set_world vs c z.here) s is) (sym run) (go (set_flag us c true) (set_world vs c k.0) s (only_world b us vs s c true k.0 lt r k.2) pr),
      )

  stays_dark : (b : ℕ) (us : List Bool) (vs : List World) (s : Plain) (c : ℕ) (v : World) → c < houses → flag us c ≡ false → Related (suc b) us vs s → P.Down b c (house_at s c) v.device → Related b us (set_world vs c v) s
  stays_dark b us vs s c v lt f r x = subst (λ z. Related b z (set_world vs c v) s) (flag_back us c false f) (only_world b us vs s c false v lt r x)

  power_stops_item : (c n : ℕ) (cs : List ℕ) (is : List Item) → Rest is → (us : List Bool) (vs : List World) (s : Plain) → Related (suc (length is)) us vs s → c < houses → flag us c ≡ false → proper peer us is ≡ true → Goal vs s (power_stops c n cs ∷ is)
  unfolding Right
  power_stops_item c n cs is go us vs s r lt f pr =
      let b = length is in
      let D : P.Down b c (house_at s c) (world_at vs c).device = down_at b us vs s c lt f r in
      let k = P.wakes b c (house_at s c) (world_at vs c) lt D in
      by k.0 k.2 (power_cut b c (house_at s c) (world_at vs c) k.0 (length vs) n r.worlds (P.sized b c (house_at s c) (world_at vs c).device D) k.1)
    where
      by : (w : World) → P.Up (length is) c (house_at s c) w →
          (woken e n c (length vs) (world_at vs c) ≡ ran w no_world [] 0) ⊎ (((woken e n c (length vs) (world_at vs c)).end ≡ running) × (((woken e n c (length vs) (world_at vs c)).showed ≡ []) × ((cs : List ℕ) → P.Down (length is) c (house_at s c) (stopped (woken e n c (length vs) (world_at vs c)).here.device cs))) × ((woken e n c (length vs) (world_at vs c)).there ≡ no_world)) →
          (((woken e n c (length vs) (world_at vs c)).end ≡ 0) ⊎ ((woken e n c (length vs) (world_at vs c)).end ≡ 1000)) × ((woken e n c (length vs) (world_at vs c)).showed ≡ [])
          × Goal (set_world vs c (dark (woken e n c (length vs) (world_at vs c)).here cs)) s is
      by w u (inl run) = (
        inl (ap (λ z. z.end) run),
        ap (λ z. z.showed) run,
        subst (λ (z : Ran). Goal (set_world vs c (dark z.here cs)) s is) (sym run)
            (go us (set_world vs c (dark w cs)) s (stays_dark (length is) us vs s c (dark w cs) lt f r (P.at_rest (length is) c (house_at s c) w u cs)) pr),
      )
      by w u (inr q) = (
        inr q.0,
        q.1.0,
        go us (set_world vs c (dark (woken e n c (length vs) (world_at vs c)).here cs)) s (stays_dark (length is) us vs s c (dark (woken e n c (length vs) (world_at vs c)).here cs) lt f r (q.1.1 cs)) pr,
      )

  worlds_back : (vs : List World) (c : ℕ) (text : List ℕ) (q : Ran) (v : World) → q.there ≡ world_at vs (peer c text) → worlds_after peer vs c text q v ≡ set_world vs c v
  worlds_back vs c text q v h = rw h (ap (λ (z : List World). set_world z c v) (world_back vs (peer c text)))

  -- a command goes to its end
  whole_item : (c : ℕ) (text : List ℕ) (ls : ℕ) (is : List Item) → Rest is → (us : List Bool) (vs : List World) (s : Plain) → Related (suc (length is)) us vs s → c < houses → flag us c ≡ true → proper peer us is ≡ true → Goal vs s (whole c text ls ∷ is)
  unfolding Right
  whole_item c text ls is go us vs s r lt f pr =
      let b = length is in
      let k = P.does b c s (world_at vs c) text ls (world_at vs (peer c text)).up lt r.plain (up_at (suc b) us vs s c lt f r) in
      let run : ran_as peer e (acts k.5) vs c text ls ≡ ran k.1 (world_at vs (peer c text)) k.2 k.3 = whole_run e _ k.1 k.2 k.3 0 (peer c text) ls (world_at vs (peer c text)) k.5 in (
        acts k.5,
        set_house s c k.0,
        subst (λ (z : Ran). May known pages s c text ls (world_at vs (peer c text)).up z.showed z.end (set_house s c k.0)) (sym run) k.4,
        subst (λ (z : Ran). Goal (worlds_after peer vs c text z z.here) (set_house s c k.0) is) (sym run)
            (subst (λ (z : List World). Goal z (set_house s c k.0) is) (sym (worlds_back vs c text (ran k.1 (world_at vs (peer c text)) k.2 k.3) k.1 refl))
            (go us (set_world vs c k.1) (set_house s c k.0) (subst (λ z. Related b z (set_world vs c k.1) (set_house s c k.0)) (flag_back us c true f) (changed b us vs s c true k.1 k.0 lt r k.6)) pr)),
      )

  -- power stops in the middle of a command
  stops_item : (c : ℕ) (text : List ℕ) (ls n : ℕ) (cs : List ℕ) (is : List Item) → Rest is → (us : List Bool) (vs : List World) (s : Plain) → Related (suc (length is)) us vs s → c < houses → flag us c ≡ true → proper peer (set_flag us c false) is ≡ true → Goal vs s (stops c text ls n cs ∷ is)
  unfolding Right
  stops_item c text ls n cs is go us vs s r lt f pr =
      let b = length is in
      let k = P.does b c s (world_at vs c) text ls (world_at vs (peer c text)).up lt r.plain (up_at (suc b) us vs s c lt f r) in
      by k.0 k.1 k.2 k.3 k.4 k.6 (cut_run e _ k.1 k.2 k.3 0 (peer c text) ls (world_at vs (peer c text)) n k.5)
    where
      run : Ran
      run = ran_as peer e n vs c text ls

      left_dark : (g : House) (v : World) → run.there ≡ world_at vs (peer c text) → P.Down (length is) c g (stopped v.device cs) → Goal (worlds_after peer vs c text run (dark v cs)) (set_house s c g) is
      left_dark g v th x = subst (λ (z : List World). Goal z (set_house s c g) is) (sym (worlds_back vs c text run (dark v cs) th)) (go (set_flag us c false) (set_world vs c (dark v cs)) (set_house s c g) (changed (length is) us vs s c false (dark v cs) g lt r x) pr)

      by : (h : House) (w : World) (ss : List (List ℕ)) (end : ℕ) → May known pages s c text ls (world_at vs (peer c text)).up ss end (set_house s c h) → P.Up (length is) c h w →
          (run ≡ ran w (world_at vs (peer c text)) ss end) ⊎ ((run.end ≡ running) × ((cs : List ℕ) → (g : House) × Mid known s c text run.showed (set_house s c g) × P.Down (length is) c g (stopped run.here.device cs)) × (run.there ≡ world_at vs (peer c text))) →
          (s₁ : Plain) × (May known pages s c text ls (world_at vs (peer c text)).up run.showed run.end s₁ ⊎ ((run.end ≡ 1000) × Mid known s c text run.showed s₁))
          × Goal (worlds_after peer vs c text run (dark run.here cs)) s₁ is
      by h w ss end may u (inl q) = (
        set_house s c h,
        inl (subst (λ (z : Ran). May known pages s c text ls (world_at vs (peer c text)).up z.showed z.end (set_house s c h)) (sym q) may),
        left_dark h run.here (ap (λ z. z.there) q) (subst (λ (z : Ran). P.Down (length is) c h (stopped z.here.device cs)) (sym q) (P.at_rest (length is) c h w u cs)),
      )
      by h w ss end may u (inr q) = (set_house s c (q.1 cs).0, inr (q.0, (q.1 cs).1), left_dark (q.1 cs).0 run.here q.2 (q.1 cs).2)

  weaker : (b : ℕ) (us : List Bool) (vs : List World) (s : Plain) → Related (suc b) us vs s → Related b us vs s
  weaker b us vs s r = record { flags = r.flags; worlds = r.worlds; plain = r.plain; each_house = λ c lt. fewer b c (flag us c) (world_at vs c) (house_at s c) (r.each_house c lt) }

  -- a house at rest loses power, and nothing else happens
  goes_dark : (b : ℕ) (us : List Bool) (vs : List World) (s : Plain) (d : ℕ) (cs : List ℕ) → d < houses → flag us d ≡ true → Related b us vs s → Related b (set_flag us d false) (set_world vs d (dark (world_at vs d) cs)) s
  goes_dark b us vs s d cs lt f r = record {
    flags = flags_count us d false ∙ r.flags;
    worlds = worlds_count vs d (dark (world_at vs d) cs) ∙ r.worlds;
    plain = r.plain;
    each_house = λ c ltc. by c ltc (ℕ_discrete d c);
  }
    where
      here : State b d (flag (set_flag us d false) d) (world_at (set_world vs d (dark (world_at vs d) cs)) d) (house_at s d)
      here =
          let lu : d < length us = omega arith in
          let lv : d < length vs = omega arith in
          rw (flag_same us d false lu, world_same vs d (dark (world_at vs d) cs) lv) (P.at_rest b d (house_at s d) (world_at vs d) (up_at b us vs s d lt f r) cs)

      by : (c : ℕ) → c < houses → Dec (d ≡ c) → State b c (flag (set_flag us d false) c) (world_at (set_world vs d (dark (world_at vs d) cs)) c) (house_at s c)
      by c ltc (yes q) = subst (λ k. State b k (flag (set_flag us d false) k) (world_at (set_world vs d (dark (world_at vs d) cs)) k) (house_at s k)) q here
      by c ltc (no q) = rw (flag_other us d c false q, world_other vs d c (dark (world_at vs d) cs) q) (r.each_house c ltc)

  -- power stops at the other house
  falls_item : (c : ℕ) (text : List ℕ) (ls t : ℕ) (cs : List ℕ) (is : List Item) → Rest is → (us : List Bool) (vs : List World) (s : Plain) → Related (suc (length is)) us vs s → c < houses → flag us c ≡ true
      → peer c text < houses → flag us (peer c text) ≡ true → (c ≡ peer c text → ⊥) → proper peer (set_flag us (peer c text) false) is ≡ true → Goal vs s (falls c text ls t cs ∷ is)
  unfolding Right
  falls_item c text ls t cs is go us vs s r lt f ltd fd ne pr =
      let b = length is in
      let d = peer c text in
      let k = P.does b c s (world_at vs c) text ls (world_at vs d).up lt r.plain (up_at (suc b) us vs s c lt f r) in
      let run : fell_as peer e t (acts k.5) vs c text ls ≡ ran k.1 (world_at vs d) k.2 k.3 = whole_run e _ k.1 k.2 k.3 t d ls (world_at vs d) k.5 in
      let now_is : Related b us (set_world vs c k.1) (set_house s c k.0) = subst (λ z. Related b z (set_world vs c k.1) (set_house s c k.0)) (flag_back us c true f) (changed b us vs s c true k.1 k.0 lt r k.6) in
      let there : world_at (set_world vs c k.1) d ≡ world_at vs d = world_other vs c d k.1 ne in (
        acts k.5,
        set_house s c k.0,
        subst (λ (z : Ran). May known pages s c text ls (world_at vs d).up z.showed z.end (set_house s c k.0)) (sym run) k.4,
        subst (λ (z : Ran). Goal (set_world (worlds_after peer vs c text z z.here) d (dark z.there cs)) (set_house s c k.0) is) (sym run)
            (subst (λ (z : List World). Goal (set_world z d (dark (world_at vs d) cs)) (set_house s c k.0) is) (sym (worlds_back vs c text (ran k.1 (world_at vs d) k.2 k.3) k.1 refl))
            (go (set_flag us d false) (set_world (set_world vs c k.1) d (dark (world_at vs d) cs)) (set_house s c k.0)
            (subst (λ (z : World). Related b (set_flag us d false) (set_world (set_world vs c k.1) d (dark z cs)) (set_house s c k.0)) there (goes_dark b us (set_world vs c k.1) (set_house s c k.0) d cs ltd fd now_is)) pr)),
      )

  up_below : (b : ℕ) (us : List Bool) (vs : List World) (s : Plain) (c : ℕ) → Related b us vs s → flag us c ≡ true → c < houses
  up_below b us vs s c r f = let lt = flag_below us c f in omega arith

  picked : (a b : Bool) (n c : ℕ) → eqb n c ≡ b → pick a (pick b 1000 n) 1000 < houses → (c ≡ pick a (pick b 1000 n) 1000 → ⊥)
  picked false b n c h lt q = omega arith
  picked true true n c h lt q = omega arith
  picked true false n c h lt q = absurd (false≢true (sym h ∙ eq-eqb n c (sym q)))

  peer_other : (c : ℕ) (text : List ℕ) → peer c text < houses → (c ≡ peer c text → ⊥)
  unfolding peer
  peer_other c [] lt q = omega arith
  peer_other c (x ∷ xs) lt q = picked (eqb x 13) (eqb (from_bytes 0 xs) c) (from_bytes 0 xs) c refl lt q

  right : (is : List Item) → Rest is
  unfolding proper
  right [] us vs s r pr = unfold Right in refl
  right (power c ∷ is) us vs s r pr =
      let f = not_up_is us c (and_left (not_up us c) _ pr) in
      power_item c is (right is) us vs s r (omega (arith, f.0, r.flags)) f.1 (and_right (not_up us c) _ pr)
  right (power_stops c n cs ∷ is) us vs s r pr =
      let f = not_up_is us c (and_left (not_up us c) _ pr) in
      power_stops_item c n cs is (right is) us vs s r (omega (arith, f.0, r.flags)) f.1 (and_right (not_up us c) _ pr)
  right (whole c text ls ∷ is) us vs s r pr =
      let f = and_left (flag us c) _ pr in
      whole_item c text ls is (right is) us vs s r (up_below _ us vs s c r f) f (and_right (flag us c) _ pr)
  right (stops c text ls n cs ∷ is) us vs s r pr =
      let f = and_left (flag us c) _ pr in
      stops_item c text ls n cs is (right is) us vs s r (up_below _ us vs s c r f) f (and_right (flag us c) _ pr)
  right (falls c text ls t cs ∷ is) us vs s r pr =
      let both = and_left (flag us c && flag us (peer c text)) _ pr in
      let f = and_left (flag us c) _ both in
      let fd = and_right (flag us c) _ both in
      let ltd = up_below _ us vs s (peer c text) r fd in
      falls_item c text ls t cs is (right is) us vs s r (up_below _ us vs s c r f) f ltd fd (peer_other c text ltd) (and_right (flag us c && flag us (peer c text)) _ pr)

  pub all_right : (is : List Item) → ((c : ℕ) → c < houses → P.Down (length is) c (first_house houses) (new_world pages).device) → proper peer (so_many houses false) is ≡ true
      → Goal (so_many houses (new_world pages)) (so_many houses (first_house houses)) is
  all_right is first pr = right is (so_many houses false) (so_many houses (new_world pages)) (so_many houses (first_house houses))
      (record {
        flags = count_many houses false;
        worlds = count_many houses (new_world pages);
        plain = count_many houses (first_house houses);
        each_house = λ c lt. rw (start_flag houses c, start_world pages houses c lt, start_house houses c (first_house houses) lt) (first c lt);
      }) pr
