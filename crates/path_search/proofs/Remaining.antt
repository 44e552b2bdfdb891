-- The least path into a target, read by the levels against the direction: of each processor they say how long the shortest
-- path from there into the target is.
use Rattle.std.proofs.Common.{◌≡◌, ℕ, ◌+◌, ◌-◌, ◌<◌, ◌≤◌, true, false, Bool, ◌&&◌, List, [], ◌∷◌, ◌++◌, length, get_or, length-append}
use Rattle.std.proofs.Common.{append_assoc, append-nil, refl, sym, ap, ◌∙◌, subst, inl, inr, ◌⊎◌, ◌↔◌, IsTrue, arith}
use Rattle.std.proofs.lemmas.Bool.{cases_eq, cases_lt, and_parts, and_from}
use Rattle.affinity_mask.specs.ProcSet.{has, empty, IsLeastMember}
use Rattle.affinity_mask.proofs.Meetings.{no_member}
use Rattle.strong_apa.specs.State.{State}
use Rattle.strong_apa.specs.Chain.{IsPath, IsLess, IsLeastSuch}
use Rattle.path_search.specs.declared.direction.Direction.{Direction}
use Rattle.path_search.specs.declared.direction.Direction.TheVariants.{Onward, Back}
use Rattle.path_search.specs.Paths.{Steps, opposite_of, IsPathFrom, LeadsInto}
use Rattle.path_search.specs.Levels.{IsAway, IsLevel, AreLevels, IsOutOfReach, IsFirstMet}
use Rattle.path_search.proofs.LeastPaths.{least_one}
use Rattle.path_search.proofs.Distances.{IsLevel-start}

-- a step in the other direction is one back
pub turn : (s : State) (direction : Direction) (p q : ℕ) → Steps s (opposite_of direction) p q → Steps s direction q p
turn s Onward p q step = step
turn s Back p q step = step

pub turn_back : (s : State) (direction : Direction) (p q : ℕ) → Steps s direction p q → Steps s (opposite_of direction) q p
turn_back s Onward p q step = step
turn_back s Back p q step = step

-- the level of what is left, by its place in the list
pub level_left : (Step : ℕ → ℕ → Type 0) (target : ℕ) (levels : List ℕ) (n level : ℕ) → AreLevels Step target levels → 0 < n
    → n ≤ length levels → level ≡ get_or levels (n - 1) empty → IsLevel Step target n level
level_left Step target levels n level in_order some few e = subst (λ (k : ℕ). IsLevel Step target k level) (omega arith)
    (subst (λ (X : ℕ). IsLevel Step target (n - 1 + 1) X) (sym e) (in_order (n - 1) (omega arith)))

-- a path read from its end
turned : (Step Opposite : ℕ → ℕ → Type 0) → ((p q : ℕ) → Opposite p q → Step q p)
    → (p : ℕ) (behind : List ℕ) (e : ℕ) (rest : List ℕ) (q : ℕ) → IsPath Step p behind e → IsPath Opposite p rest q
    → (tail : List ℕ) × (length tail ≡ length rest + length behind) × IsPath Step q tail e
turned Step Opposite turn p behind e [] q there path = (behind, omega arith, subst (λ (z : ℕ). IsPath Step z behind e) path there)
turned Step Opposite turn p behind e (r ∷ rest) q there path =
    let t = turned Step Opposite turn r (p ∷ behind) e rest q (turn p r path.0, there) path.1 in (t.0, (let l = t.1 in omega arith), t.2)

module _ (Step Opposite : ℕ → ℕ → Type 0) (turn : (p q : ℕ) → Opposite p q → Step q p) (back : (p q : ℕ) → Step p q → Opposite q p) where
  -- a path from one set into another, read from its end
  turned_into : (start target : ℕ) (path : List ℕ) → LeadsInto Step start target path
      → (other : List ℕ) × LeadsInto Opposite target start other × (length other ≡ length path)
  turned_into start target [] leads = absurd leads.1
  turned_into start target (p ∷ rest) leads = let t = turned Opposite Step back p [] p rest leads.0 refl leads.1.1 in
      (leads.0 ∷ t.0, (p, (leads.2, t.2), leads.1.0), (let l = t.1 in omega arith))

  -- where no path leads back, none leads there
  pub none_there : (start target : ℕ) → IsOutOfReach Opposite target start → (path : List ℕ) → LeadsInto Step start target path → ⊥
  none_there start target none path leads = let other = turned_into start target path leads in none other.0 other.1

  module _ (target : ℕ) where
    away_path : (path : List ℕ) (q : ℕ) → IsPathFrom Opposite target path q → (rest : List ℕ) × (e : ℕ) × IsPath Step q rest e
        × IsTrue (has target e) × (length rest + 1 ≡ length path)
    away_path [] q leads = absurd leads
    away_path (p ∷ others) q leads =
        let t = turned Step Opposite turn p [] p others q refl leads.1 in (t.0, p, t.2, leads.0, (let l = t.1 in omega arith))

    -- from a processor that is n away some path into the target has n processors
    to_go : (n q : ℕ) → IsAway Opposite target n q → (rest : List ℕ) × (e : ℕ) × IsPath Step q rest e × IsTrue (has target e)
        × (length rest + 1 ≡ n)
    to_go n q away = let path = away_path away.path q away.leads in (path.0, path.1, path.2, path.3, path.4 ∙ away.as_long)

    -- and none has fewer
    none_fewer : (n q : ℕ) → IsAway Opposite target n q → (rest : List ℕ) (e : ℕ) → IsPath Step q rest e → IsTrue (has target e)
        → n ≤ length rest + 1
    none_fewer n q away rest e path there = let t = turned Opposite Step back q [] q rest e refl path in
        let s = away.shortest (e ∷ t.0) (there, t.2) in let l = t.1 in omega arith

    away_from : (q : ℕ) (rest : List ℕ) (e : ℕ) → IsPath Step q rest e → IsTrue (has target e)
        → ((other : List ℕ) (f : ℕ) → IsPath Step q other f → IsTrue (has target f) → length rest ≤ length other)
        → IsAway Opposite target (length rest + 1) q
    away_from q rest e path there shortest = let t = turned Opposite Step back q [] q rest e refl path in record {
      path = e ∷ t.0;
      leads = (there, t.2);
      as_long = (let l = t.1 in omega arith);
      shortest = λ other leads. (let g = away_path other q leads in let s = shortest g.0 g.1 g.2 g.3 in let l = g.4 in omega arith);
    }

    -- the shortest paths from the set into the target have n processors
    pub record IsNext (n set : ℕ) : Type 0 where
      pub some : (q : ℕ) × IsTrue (has set q) × IsAway Opposite target n q
      pub none_shorter : (path : List ℕ) → LeadsInto Step set target path → n ≤ length path

    IsNext-start : (start n : ℕ) → IsFirstMet Opposite target start n → IsNext n start
    IsNext-start start n met = record {
      some = met.meets;
      none_shorter = λ path leads. (let other = turned_into start target path leads in let l = met.none_shorter other.0 other.1 in
          let e = other.2 in omega arith);
    }

    same : (a b : Bool) → (IsTrue a → IsTrue b) → (IsTrue b → IsTrue a) → a ≡ b
    same true b f g = sym (f refl)
    same false true f g = g refl
    same false false f g = refl

    -- the next processor is the least one of the set that is n away
    module _ (n set level common p : ℕ) (next : IsNext n set) (is_level : IsLevel Opposite target n level) (is_common : (q : ℕ)
        → has common q ≡ (has set q && has level q)) where
      pub some_common : common ≡ empty → ⊥
      some_common none = no_member common next.some.0 none
          (is_common next.some.0 ∙ and_from (has set next.some.0) (has level next.some.0) next.some.1
          ((is_level next.some.0).1 next.some.2))

      module _ (member : IsLeastMember common p) where
        here : IsTrue (has set p)
        here = (and_parts (has set p) (has level p) (sym (is_common p) ∙ member.0)).0

        pub away : IsAway Opposite target n p
        away = (is_level p).0 (and_parts (has set p) (has level p) (sym (is_common p) ∙ member.0)).1

        -- it is in the target
        least_last : n ≡ 1 → IsLeastSuch (LeadsInto Step set target) (p ∷ [])
        least_last one = least_one Step set target common (λ q. is_common q ∙ ap (λ b. has set q && b) (same (has level q) (has target q)
            (λ h. (IsLevel-start Opposite target q).1 (subst (λ (k : ℕ). IsAway Opposite target k q) one ((is_level q).0 h)))
            (λ h. (is_level q).1 (subst (λ (k : ℕ). IsAway Opposite target k q) (sym one) ((IsLevel-start Opposite target q).0 h)))))
            p member

        -- or more steps are left
        module _ (after : ℕ) (is_after : (r : ℕ) → IsTrue (has after r) ↔ Step p r) where
          some_after : (m : ℕ) → 0 < m → m + 1 ≡ n → (rest : List ℕ) (e : ℕ) → IsPath Step p rest e → IsTrue (has target e)
              → length rest + 1 ≡ n → (q : ℕ) × IsTrue (has after q) × IsAway Opposite target m q
          some_after m some one_less [] e path there l = absurd (omega arith)
          some_after m some one_less (r ∷ tail) e path there l = (
            r,
            (is_after r).1 path.0,
            subst (λ (k : ℕ). IsAway Opposite target k r) (omega arith)
                (away_from r tail e path.1 there (λ other f path' there'.
                (let few = none_fewer n p away (r ∷ other) f (path.0, path') there' in omega arith))),
          )

          none_after : (m : ℕ) → m + 1 ≡ n → (path : List ℕ) → LeadsInto Step after target path → m ≤ length path
          none_after m one_less [] leads = absurd leads.1
          none_after m one_less (r ∷ rest) leads =
              let few = none_fewer n p away (r ∷ rest) leads.0 ((is_after r).0 leads.1.0, leads.1.1) leads.2 in omega arith

          pub IsNext-more : (m : ℕ) → 0 < m → m + 1 ≡ n → IsNext m after
          IsNext-more m some one_less = let path = to_go n p away in record {
            some = some_after m some one_less path.0 path.1 path.2 path.3 path.4;
            none_shorter = none_after m one_less;
          }

          module _ (rest : List ℕ) (least : IsLeastSuch (LeadsInto Step after target) rest) where
            leads_on : (path : List ℕ) → LeadsInto Step after target path → LeadsInto Step set target (p ∷ path)
            leads_on [] leads = absurd leads.1
            leads_on (r ∷ tail) leads = (leads.0, (here, ((is_after r).0 leads.1.0, leads.1.1)), leads.2)

            no_longer : (path : List ℕ) → (rest ≡ path) ⊎ IsLess rest path → length rest ≤ length path
            no_longer path (inl e) = let l = ap length e in omega arith
            no_longer path (inr (inl lt)) = omega arith
            no_longer path (inr (inr l)) = let e = l.0 in omega arith

            short : 1 < n → length rest + 1 ≤ n
            short more = go (to_go n p away).0 (to_go n p away).1 (to_go n p away).2 (to_go n p away).3 (to_go n p away).4
              where
                go : (path : List ℕ) (e : ℕ) → IsPath Step p path e → IsTrue (has target e) → length path + 1 ≡ n → length rest + 1 ≤ n
                go [] e path there l = absurd (omega arith)
                go (r ∷ tail) e path there l =
                    let k = no_longer (r ∷ tail) (least.least (r ∷ tail) (e, ((is_after r).1 path.0, path.1), there)) in omega arith

            behind : (q : ℕ) (tail : List ℕ) → p ≡ q → length rest ≡ length tail → (rest ≡ tail) ⊎ IsLess rest tail
                → (p ∷ rest ≡ q ∷ tail) ⊎ IsLess (p ∷ rest) (q ∷ tail)
            behind q tail e l (inl same_rest) = inl (rw (e, same_rest) refl)
            behind q tail e l (inr (inl lt)) = absurd (omega arith)
            behind q tail e l (inr (inr less)) = inr (inr (omega arith, inr (e, less.1)))

            against : 1 < n → (other : List ℕ) → LeadsInto Step set target other → (p ∷ rest ≡ other) ⊎ IsLess (p ∷ rest) other
            against more [] leads = absurd leads.1
            against more (q ∷ []) leads = absurd (let l = next.none_shorter (q ∷ []) leads in omega arith)
            against more (q ∷ r ∷ tail) leads = elim (cases_lt (length rest) (length (r ∷ tail))) [
              | inl lt ↦ inr (inl (omega arith))
              | inr ge ↦ (let l = next.none_shorter (q ∷ r ∷ tail) leads in let k = short more in
                  let as_far : IsAway Opposite target n q = subst (λ (m : ℕ). IsAway Opposite target m q) (omega arith)
                  (away_from q (r ∷ tail) leads.0 leads.1.1 leads.2
                  (λ path f path' there'. (let few = next.none_shorter (q ∷ path) (f, (leads.1.0, path'), there') in omega arith))) in
                  let le = member.1 q (is_common q ∙ and_from (has set q) (has level q) leads.1.0 ((is_level q).1 as_far)) in
                  elim (cases_eq p q) [
                    | inl e ↦ behind q (r ∷ tail) e (omega arith)
                        (least.least (r ∷ tail) (
                          leads.0,
                          ((is_after r).1 (subst (λ (x : ℕ). Step x r) (sym e) leads.1.1.0), leads.1.1.1),
                          leads.2,
                        ))
                    | inr ne ↦ inr (inr (omega arith, inl (omega arith)))
                  ])
            ]

            least_more : 1 < n → IsLeastSuch (LeadsInto Step set target) (p ∷ rest)
            least_more more = record { itself = leads_on rest least.itself; least = against more }

    -- ---- what is read so far, where n processors are left
    abbrev Completes : ℕ → ℕ → List ℕ → Type 0
    Completes n set rest = ((n ≡ 0) × (rest ≡ [])) ⊎ ((0 < n) × IsLeastSuch (LeadsInto Step set target) rest)

    pub record IsRead (start count n set : ℕ) (chain : List ℕ) : Type 0 where
      pub whole : (rest : List ℕ) → Completes n set rest → IsLeastSuch (LeadsInto Step start target) (chain ++ rest)
      pub next : 0 < n → IsNext n set
      pub as_long : length chain + n ≡ count

    pub IsRead-start : (start count : ℕ) (chain : List ℕ) → chain ≡ [] → IsFirstMet Opposite target start count → 0 < count
        → IsRead start count count start chain
    IsRead-start start count chain none met some = record {
      whole = λ rest completes. elim completes [
        | inl over ↦ absurd (let z = over.0 in omega arith)
        | inr more ↦ subst (λ (xs : List ℕ). IsLeastSuch (LeadsInto Step start target) (xs ++ rest)) (sym none) more.1
      ];
      next = λ h. IsNext-start start count met;
      as_long = rw none (omega arith);
    }

    module _ (start count n m set level common p after : ℕ) (chain : List ℕ) (one_less : m + 1 ≡ n)
        (so_far : IsRead start count n set chain) (is_level : IsLevel Opposite target n level) (is_common : (q : ℕ)
        → has common q ≡ (has set q && has level q)) (member : IsLeastMember common p) (is_after : (r : ℕ)
        → IsTrue (has after r) ↔ Step p r) where
      next_now : IsNext n set
      next_now = so_far.next (omega arith)

      pub IsRead-more : (more : List ℕ) → more ≡ chain ++ p ∷ [] → IsRead start count m after more
      IsRead-more more pushed = subst (λ (xs : List ℕ). IsRead start count m after xs) (sym pushed) record {
        whole = λ rest completes. subst (λ (xs : List ℕ). IsLeastSuch (LeadsInto Step start target) xs)
            (sym (append_assoc chain (p ∷ []) rest)) (so_far.whole (p ∷ rest) (inr (omega arith, completed rest completes)));
        next = λ some. IsNext-more n set level common p next_now is_level is_common member after is_after m some one_less;
        as_long = (let l = so_far.as_long in let k = length-append chain (p ∷ []) in omega arith);
      }
        where
          completed : (rest : List ℕ) → Completes m after rest → IsLeastSuch (LeadsInto Step set target) (p ∷ rest)
          completed rest (inl over) = subst (λ (xs : List ℕ). IsLeastSuch (LeadsInto Step set target) (p ∷ xs)) (sym over.1)
              (least_last n set level common p next_now is_level is_common member (let z = over.0 in omega arith))
          completed rest (inr least) = least_more n set level common p next_now is_level is_common member after is_after rest least.1
              (let some = least.0 in omega arith)

    pub IsRead-end : (start count n set : ℕ) (chain : List ℕ) → IsRead start count n set chain → n ≡ 0
        → IsLeastSuch (LeadsInto Step start target) chain
    IsRead-end start count n set chain so_far none =
        subst (λ (xs : List ℕ). IsLeastSuch (LeadsInto Step start target) xs) (append-nil chain) (so_far.whole [] (inl (none, refl)))
