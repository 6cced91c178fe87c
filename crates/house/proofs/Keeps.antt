-- join and new box where there is room: the changed memory stands for the house with one person, or one box, more, and it settles.
use Rattle.std.proofs.Common.{◌≡◌, ℕ, suc, ◌+◌, ◌-◌, ◌*◌, ◌/◌, ◌<◌, ◌≤◌, Bool, true, List, [], ◌∷◌, length, get_or, sym, refl, ap, ◌∙◌, subst, add-one, arith, ne_eqb}
use Rattle.model.specs.Mail.{pick, eight}
use Rattle.model.specs.House.{join, new_box, Plain, Turn, house_at, weight}
use Rattle.model.specs.Run.{World, all_small}
use Rattle.model.specs.Promise.{Said}
use Rattle.model.specs.Known.{also, nothing}
use Rattle.pages.specs.Words.{patched}
use Rattle.pages.specs.Geometry.{selector_pages, directory_pages}
use Rattle.pages.proofs.Words.{length_patched, get_or_patched, get_or_patched_before, patched_all, all_small_cons, all_small_nil}
use Rattle.pages.proofs.Geometry.{selector_within, directory_pages_most}
use Rattle.mailboxes.specs.Directory.{person_place, box_place, with_person, with_box, house_of}
use Rattle.mailboxes.proofs.Changes.{length_with_person, length_with_box, with_person_house, with_person_sound, with_box_house, with_box_sound, all_small_with_person, all_small_with_box, with_person_page, with_box_page}
use Rattle.house.specs.declared.phase.Phase.TheVariants.{Idle}
use Rattle.house.specs.Memory.{weight_of}
use Rattle.house.specs.Machine.{commit, touch_record, person_added, box_added}
use Rattle.house.proofs.Regions.{Mem, length_header, length_coming, length_dir, small_dir, header_word, to_dir, to_header, to_regs}
use Rattle.house.proofs.Rest.{Stands, Beside, Up}
use Rattle.house.proofs.Touching.{record_touched, length_record_touched, agree_record, bit_record_other, touch_mem}
use Rattle.house.proofs.Counts.{people_word, boxes_is, dir_is, people_there}
use Rattle.house.proofs.Room.{joined_weight, boxed_weight, joined_few, boxed_few}
use Rattle.house.proofs.Refusals.{known_no_push}
use Rattle.house.proofs.Does.{Does}
use Rattle.house.proofs.Asked.{CanJoin, CanMakeBox, joined, boxed}
use Rattle.house.proofs.Settles.{rows_after, settles}

-- the header's words after counts and the weight were written
module _ (header : List ℕ) (long : length header ≡ 32) (i : ℕ) (ws : List ℕ) (w : ℕ) (l : i + length ws ≤ 6) where
  counts_long : length (patched header i ws) ≡ 32
  counts_long = length_patched header i ws (omega arith) ∙ long

  header_early : (j : ℕ) → j < i → get_or (patched (patched header i ws) 6 (w ∷ [])) j 0 ≡ get_or header j 0
  header_early j k = get_or_patched_before (patched header i ws) 6 (w ∷ []) j 0 (omega (arith, counts_long)) (omega arith) ∙ get_or_patched_before header i ws j 0 (omega arith) k

  header_middle : (k : ℕ) → k < length ws → get_or (patched (patched header i ws) 6 (w ∷ [])) (i + k) 0 ≡ get_or ws k 0
  header_middle k h = get_or_patched_before (patched header i ws) 6 (w ∷ []) (i + k) 0 (omega (arith, counts_long)) (omega arith) ∙ get_or_patched header i ws k 0 (omega arith) h

  header_six : get_or (patched (patched header i ws) 6 (w ∷ [])) 6 0 ≡ w
  header_six = get_or_patched (patched header i ws) 6 (w ∷ []) 0 0 (omega (arith, counts_long)) (omega arith)

module _ (P n : ℕ) (low : 256 ≤ P) (high : P ≤ 1048576) (few : n ≤ 16) (s : Plain) (c : ℕ) (text : List ℕ) (ls : ℕ) (up : Bool) (v : World) (U : Up P n (house_at s c) v) where
  abbrev people : ℕ
  people = get_or U.header 2 0

  abbrev many : ℕ
  many = get_or U.header 3 0

  abbrev heavy : ℕ
  heavy = get_or U.header 6 0

  abbrev regs : ℕ → List ℕ
  regs x = U.house_number ∷ n ∷ P ∷ x ∷ []

  header_is_long : length U.header ≡ 32
  header_is_long = length_header P Idle (regs U.shown) U.header U.counting U.coming U.dir v.memory U.memory_is

  coming_is_long : length U.coming ≡ 64 * selector_pages P
  coming_is_long = length_coming P Idle (regs U.shown) U.header U.counting U.coming U.dir v.memory U.memory_is

  dir_is_long : length U.dir ≡ 64 * directory_pages P
  dir_is_long = length_dir P Idle (regs U.shown) U.header U.counting U.coming U.dir v.memory U.memory_is

  dir_is_small : all_small U.dir ≡ true
  dir_is_small = small_dir P Idle (regs U.shown) U.header U.counting U.coming U.dir v.memory U.memory_is

  weight_word : weight_of v.memory ≡ heavy
  weight_word = header_word P Idle (regs U.shown) U.header U.counting U.coming U.dir v.memory U.memory_is 6 (omega arith)

  heavy_is : heavy ≡ weight (house_at s c)
  heavy_is = U.stands.weight_is

  -- a new directory in the memory
  with_dir : (dir' : List ℕ) → length dir' ≡ length U.dir → all_small dir' ≡ true → Mem P Idle (regs U.shown) U.header U.counting U.coming dir' (patched v.memory 2272 dir')
  with_dir dir' l sm = subst (λ ws. Mem P Idle (regs U.shown) U.header U.counting U.coming ws (patched v.memory 2272 dir')) (patched_all U.dir dir' l)
      (to_dir P Idle (regs U.shown) U.header U.counting U.coming U.dir v.memory U.memory_is 0 dir' (omega (arith, dir_is_long)) sm)

  -- a record's pages have their bits among the selector words
  selected : (at : ℕ) → at + 11 < 64 * directory_pages P → ((at / 64) / 64 < 64 * selector_pages P) × (((at + 11) / 64) / 64 < 64 * selector_pages P)
  selected at l = (selector_within P (at / 64) (omega arith), selector_within P ((at + 11) / 64) (omega arith))

  -- new box: the header has one box more and its weight
  module _ (a : ℕ) (nm : List ℕ) (is_said : Said text (new_box a nm)) (C : CanMakeBox P n s c text v U a nm) where
    abbrev box_dir : List ℕ
    box_dir = with_box many U.dir a nm

    abbrev box_coming : List ℕ
    box_coming = record_touched U.counting U.coming (box_place many)

    abbrev box_header : List ℕ
    box_header = patched (patched U.header 3 ((many + 1) ∷ [])) 6 ((heavy + 256) ∷ [])

    box_dir_long : length box_dir ≡ length U.dir
    box_dir_long = length_with_box many U.dir a nm C.room_in_dir

    box_memory : List ℕ
    box_memory = patched (patched (patched (touch_record P (box_place many) (patched v.memory 2272 box_dir)) 67 ((many + 1) ∷ [])) 70 ((heavy + 256) ∷ [])) 6 (0 ∷ [])

    box_added_is : box_added P a nm v.memory ≡ box_memory
    unfolding box_added box_memory
    box_added_is = rw (boxes_is P n (house_at s c) v U, weight_word, dir_is P n (house_at s c) v U)

    box_mem : Mem P Idle (regs 0) box_header U.counting box_coming box_dir box_memory
    unfolding box_memory
    box_mem =
        let M₁ = with_dir box_dir box_dir_long (all_small_with_box many U.dir a nm dir_is_small (omega (arith, C.owner_there, U.stands.sound.people_few)) C.is_name) in
        let m₁ = patched v.memory 2272 box_dir in
        let M₂ = touch_mem P Idle (regs U.shown) U.header U.counting U.coming box_dir m₁ M₁ (box_place many) in
        let m₂ = touch_record P (box_place many) m₁ in
        let D = directory_pages_most P in
        let M₃ = to_header P Idle (regs U.shown) U.header U.counting box_coming box_dir m₂ M₂ 3 ((many + 1) ∷ []) (omega arith) (all_small_cons (many + 1) [] (omega (arith, C.room)) all_small_nil) in
        let m₃ = patched m₂ 67 ((many + 1) ∷ []) in
        let M₄ = to_header P Idle (regs U.shown) (patched U.header 3 ((many + 1) ∷ [])) U.counting box_coming box_dir m₃ M₃ 6 ((heavy + 256) ∷ []) (omega arith) (all_small_cons (heavy + 256) [] (omega (arith, C.light, heavy_is)) all_small_nil) in
        let m₄ = patched m₃ 70 ((heavy + 256) ∷ []) in
        to_regs P Idle (regs U.shown) box_header U.counting box_coming box_dir m₄ M₄ 3 (0 ∷ []) (omega arith) (all_small_cons 0 [] (omega arith) all_small_nil)

    box_early : (j : ℕ) → j < 3 → get_or box_header j 0 ≡ get_or U.header j 0
    box_early = header_early U.header header_is_long 3 ((many + 1) ∷ []) (heavy + 256) (omega arith)

    box_many : get_or box_header 3 0 ≡ suc many
    box_many = header_middle U.header header_is_long 3 ((many + 1) ∷ []) (heavy + 256) (omega arith) 0 (omega arith) ∙ add-one many

    box_heavy : get_or box_header 6 0 ≡ heavy + 256
    box_heavy = header_six U.header header_is_long 3 ((many + 1) ∷ []) (heavy + 256) (omega arith)

    box_house : boxed (house_at s c) a nm ≡ house_of n people (suc many) box_dir
    box_house = ap (λ h. boxed h a nm) U.stands.house_is ∙ sym (with_box_house people many U.dir U.stands.sound a C.owner_there nm C.is_name C.room_in_dir n)

    box_weight : weight (boxed (house_at s c) a nm) ≡ weight (house_at s c) + 256
    box_weight = boxed_weight (house_at s c) a nm (omega (arith, C.owner_there, people_there P n (house_at s c) v U))

    box_stands : Stands P n box_header box_dir (boxed (house_at s c) a nm)
    box_stands = record {
      area_small = omega (arith, box_early 1 (omega arith), U.stands.area_small);
      sound = rw (box_early 2 (omega arith), box_many) (with_box_sound people many U.dir U.stands.sound a C.owner_there nm C.is_name C.room_in_dir);
      house_is = rw (box_early 2 (omega arith), box_many) box_house;
      weight_is = box_heavy ∙ ap (λ w. w + 256) heavy_is ∙ sym box_weight;
      light = omega (arith, box_weight, C.light);
      few_boxes = boxed_few (house_at s c) a nm C.few_boxes U.stands.few_boxes;
    }

    box_bits : ((box_place many / 64) / 64 < length U.coming) × (((box_place many + 11) / 64) / 64 < length U.coming)
    box_bits = let b = selected (box_place many) (omega (arith, C.room)) in (omega (arith, b.0, coming_is_long), omega (arith, b.1, coming_is_long))

    box_beside : Beside P U.down.image U.counting box_coming box_dir
    box_beside = record {
      counts = U.beside.counts;
      clean = λ t l e.
          let r = agree_record U.counting U.coming (box_place many) t box_bits.0 box_bits.1 e in
          U.beside.clean t l r.2 ∙ sym (with_box_page many U.dir a nm C.room_in_dir t r.0 r.1);
      slots_clean = λ t l k.
          U.beside.slots_clean t l k ∙ sym (bit_record_other U.counting U.coming (box_place many) t (λ e. omega (arith, C.room)) (λ e. omega (arith, C.room)));
    }

    pub keeps_box : Does P n s c text ls up v
    unfolding also nothing
    keeps_box = settles P n low high few s c v U text (new_box a nm) is_said refl (known_no_push (new_box a nm) refl) 0 box_header box_coming box_dir box_memory (boxed (house_at s c) a nm)
        (C.begins ∙ ap (commit P 0) box_added_is) box_mem box_stands (λ e. U.version_one (sym (box_early 0 (omega arith)) ∙ e)) (box_early 1 (omega arith) ∙ U.area_is) box_beside
        (ap (λ (t : Turn). t.reply) C.turns) (ap (λ (t : Turn). t.shows) C.turns) (ap (λ (t : Turn). t.next) C.turns) ls up

  -- join: the header has one person and one box more and their weight
  module _ (nm : List ℕ) (is_said : Said text (join nm)) (C : CanJoin P n s c text v U nm) where
    abbrev person_dir : List ℕ
    person_dir = with_person people many U.dir nm

    abbrev person_coming : List ℕ
    person_coming = record_touched U.counting (record_touched U.counting U.coming (person_place people)) (box_place many)

    abbrev person_header : List ℕ
    person_header = patched (patched U.header 2 ((people + 1) ∷ (many + 1) ∷ [])) 6 ((heavy + 776) ∷ [])

    person_dir_long : length person_dir ≡ length U.dir
    person_dir_long = length_with_person people many U.dir nm C.few_people C.room_in_dir

    person_memory : List ℕ
    person_memory =
        patched (patched (patched (touch_record P (box_place many) (touch_record P (person_place people) (patched v.memory 2272 person_dir))) 66 ((people + 1) ∷ (many + 1) ∷ [])) 70 ((heavy + 776) ∷ [])) 6 ((people + 1) ∷ [])

    person_added_is : person_added P nm v.memory ≡ person_memory
    unfolding person_added person_memory
    person_added_is = rw (people_word P n (house_at s c) v U, boxes_is P n (house_at s c) v U, weight_word, dir_is P n (house_at s c) v U)

    person_mem : Mem P Idle (regs (people + 1)) person_header U.counting person_coming person_dir person_memory
    unfolding person_memory
    person_mem =
        let M₁ = with_dir person_dir person_dir_long (all_small_with_person people many U.dir nm dir_is_small (omega (arith, C.few_people)) C.is_name) in
        let m₁ = patched v.memory 2272 person_dir in
        let M₂ = touch_mem P Idle (regs U.shown) U.header U.counting U.coming person_dir m₁ M₁ (person_place people) in
        let m₂ = touch_record P (person_place people) m₁ in
        let c₂ = record_touched U.counting U.coming (person_place people) in
        let M₃ = touch_mem P Idle (regs U.shown) U.header U.counting c₂ person_dir m₂ M₂ (box_place many) in
        let m₃ = touch_record P (box_place many) m₂ in
        let D = directory_pages_most P in
        let M₄ = to_header P Idle (regs U.shown) U.header U.counting person_coming person_dir m₃ M₃ 2 ((people + 1) ∷ (many + 1) ∷ []) (omega arith)
        (all_small_cons (people + 1) ((many + 1) ∷ []) (omega (arith, C.few_people)) (all_small_cons (many + 1) [] (omega (arith, C.room)) all_small_nil)) in
        let m₄ = patched m₃ 66 ((people + 1) ∷ (many + 1) ∷ []) in
        let M₅ = to_header P Idle (regs U.shown) (patched U.header 2 ((people + 1) ∷ (many + 1) ∷ [])) U.counting person_coming person_dir m₄ M₄ 6 ((heavy + 776) ∷ []) (omega arith) (all_small_cons (heavy + 776) [] (omega (arith, C.light, heavy_is)) all_small_nil) in
        let m₅ = patched m₄ 70 ((heavy + 776) ∷ []) in
        to_regs P Idle (regs U.shown) person_header U.counting person_coming person_dir m₅ M₅ 3 ((people + 1) ∷ []) (omega arith) (all_small_cons (people + 1) [] (omega (arith, C.few_people)) all_small_nil)

    person_early : (j : ℕ) → j < 2 → get_or person_header j 0 ≡ get_or U.header j 0
    person_early = header_early U.header header_is_long 2 ((people + 1) ∷ (many + 1) ∷ []) (heavy + 776) (omega arith)

    person_people : get_or person_header 2 0 ≡ suc people
    person_people = header_middle U.header header_is_long 2 ((people + 1) ∷ (many + 1) ∷ []) (heavy + 776) (omega arith) 0 (omega arith) ∙ add-one people

    person_many : get_or person_header 3 0 ≡ suc many
    person_many = header_middle U.header header_is_long 2 ((people + 1) ∷ (many + 1) ∷ []) (heavy + 776) (omega arith) 1 (omega arith) ∙ add-one many

    person_heavy : get_or person_header 6 0 ≡ heavy + 776
    person_heavy = header_six U.header header_is_long 2 ((people + 1) ∷ (many + 1) ∷ []) (heavy + 776) (omega arith)

    person_house : joined (house_at s c) nm ≡ house_of n (suc people) (suc many) person_dir
    person_house = ap (λ h. joined h nm) U.stands.house_is ∙ sym (with_person_house people many U.dir U.stands.sound nm C.is_name C.few_people C.room_in_dir n)

    person_stands : Stands P n person_header person_dir (joined (house_at s c) nm)
    person_stands = record {
      area_small = omega (arith, person_early 1 (omega arith), U.stands.area_small);
      sound = rw (person_people, person_many) (with_person_sound people many U.dir U.stands.sound nm C.is_name C.few_people C.room_in_dir);
      house_is = rw (person_people, person_many) person_house;
      weight_is = person_heavy ∙ ap (λ w. w + 776) heavy_is ∙ sym (joined_weight (house_at s c) nm);
      light = omega (arith, joined_weight (house_at s c) nm, C.light);
      few_boxes = joined_few (house_at s c) nm U.stands.few_boxes;
    }

    abbrev middle_coming : List ℕ
    middle_coming = record_touched U.counting U.coming (person_place people)

    middle_long : length middle_coming ≡ 64 * selector_pages P
    middle_long = length_record_touched U.counting U.coming (person_place people) ∙ coming_is_long

    person_beside : Beside P U.down.image U.counting person_coming person_dir
    person_beside =
        let b = selected (box_place many) (omega (arith, C.room)) in
        let q = selected (person_place people) (omega (arith, C.few_people, C.room)) in
        record {
          counts = U.beside.counts;
          clean = λ t l e.
              let r = agree_record U.counting middle_coming (box_place many) t (omega (arith, b.0, middle_long)) (omega (arith, b.1, middle_long)) e in
              let k = agree_record U.counting U.coming (person_place people) t (omega (arith, q.0, coming_is_long)) (omega (arith, q.1, coming_is_long)) r.2 in
              U.beside.clean t l k.2 ∙ sym (with_person_page people many U.dir nm C.few_people C.room_in_dir t r.0 r.1 k.0 k.1);
          slots_clean = λ t l k.
              U.beside.slots_clean t l k
              ∙ sym (bit_record_other U.counting U.coming (person_place people) t (λ e. omega (arith, C.room, C.few_people)) (λ e. omega (arith, C.room, C.few_people)))
              ∙ sym (bit_record_other U.counting middle_coming (box_place many) t (λ e. omega (arith, C.room)) (λ e. omega (arith, C.room)));
        }

    person_rows : eight (length (house_at s c).people) ∷ [] ≡ rows_after (people + 1)
    person_rows =
        let e : people + 1 - 1 ≡ people = omega arith in
        ap (λ k. eight k ∷ []) (people_there P n (house_at s c) v U ∙ sym e) ∙ sym (ap (λ b. pick b [] (eight (people + 1 - 1) ∷ [])) (ne_eqb (people + 1) 0 (λ z. omega arith)))

    pub keeps_person : Does P n s c text ls up v
    unfolding also nothing
    keeps_person = settles P n low high few s c v U text (join nm) is_said refl (known_no_push (join nm) refl) (people + 1) person_header person_coming person_dir person_memory (joined (house_at s c) nm)
        (C.begins ∙ ap (commit P 0) person_added_is) person_mem person_stands (λ e. U.version_one (sym (person_early 0 (omega arith)) ∙ e)) (person_early 1 (omega arith) ∙ U.area_is) person_beside
        (ap (λ (t : Turn). t.reply) C.turns) (ap (λ (t : Turn). t.shows) C.turns ∙ person_rows) (ap (λ (t : Turn). t.next) C.turns) ls up
