use Rattle.std.proofs.Common.{◌≡◌, ℕ, Bool, true, false, ◌&&◌, codes, Option, Some, None, refl, sym, ap, ◌∙◌}
use Rattle.std.specs.Prelude.{if◌then◌else◌}
use Rattle.kernel_trace.specs.TraceLine.{is_keyed, is_priority, id_after}
use Rattle.kernel_trace.specs.declared.change.Change.{Change}
use Rattle.kernel_trace.specs.declared.change.Change.TheVariants.{Wakeup}
use Rattle.kernel_trace.proofs.event.read_woken.Goals as goal
use Rattle.kernel_trace.proofs.event.read_woken.Goals.{else-is_keyed-via-then-is_keyed+then-is_priority+else-is_keyed-2}
use Rattle.kernel_trace.proofs.event.read_woken.Goals.{else-is_keyed-via-then-is_keyed+else-is_priority, else-is_keyed-via-else-is_keyed}

-- three tests, one after another
chosen : (a b d : Bool) (x : Option Change) → a ≡ true → b ≡ true → d ≡ true → (if a && b && d then x else None) ≡ x
chosen a b d x e f g = rw (e, f, g) refl

none_first : (a b d : Bool) (x : Option Change) → a ≡ false → (if a && b && d then x else None) ≡ None
none_first true b d x e = cc
none_first false b d x e = refl

none_second : (a b d : Bool) (x : Option Change) → b ≡ false → (if a && b && d then x else None) ≡ None
none_second false b d x e = refl
none_second true true d x e = cc
none_second true false d x e = refl

none_third : (a b d : Bool) (x : Option Change) → d ≡ false → (if a && b && d then x else None) ≡ None
none_third false b d x e = refl
none_third true false d x e = refl
none_third true true true x e = cc
none_third true true false x e = refl

pub returns-then-is_keyed-2 : goal.returns-then-is_keyed-2
returns-then-is_keyed-2 c =
    ap (λ (n : ℕ). Some (Wakeup n)) c.id_of.ensures
    ∙ sym (chosen _ _ _ _ (sym c.is_keyed.ensures ∙ c.if-is_keyed.true)
    (sym c.is_priority.ensures ∙ c.if-is_priority.true)
    (sym c.is_keyed-then-is_priority.ensures ∙ c.if-is_keyed-2.true))

pub returns-else-is_keyed : goal.returns-else-is_keyed
returns-else-is_keyed c =
    let target = is_keyed (codes "target_cpu=") c.args.target.now in
    let prio = is_priority (codes "prio=") c.args.prio.now in
    let pid = is_keyed (codes "pid=") c.args.pid.now in
    let woken : Option Change = Some (Wakeup (id_after (codes "pid=") c.args.pid.now)) in
    elim c.else-is_keyed.branch [
      | else-is_keyed-via-then-is_keyed+then-is_priority+else-is_keyed-2 w ↦
          sym (none_third target prio pid woken (sym w.is_keyed-then-is_priority.ensures ∙ w.if-is_keyed-2.false))
      | else-is_keyed-via-then-is_keyed+else-is_priority w ↦
          sym (none_second target prio pid woken (sym w.is_priority.ensures ∙ w.if-is_priority.false))
      | else-is_keyed-via-else-is_keyed w ↦ sym (none_first target prio pid woken (sym c.is_keyed.ensures ∙ w.if-is_keyed.false))
    ]
