use Rattle.std.proofs.Common.{ℕ, List, [], ◌∷◌, ◌++◌, refl, w64, MutBor}
use Rattle.std.proofs.raw_atomic.Walks.{proved}
use base.Fraction.{full_share}
use base.Logic.{id⊢}
use base.Fml.{ftrue, flft, flent, fex}
use mir.Syntax.{named}
use mir.Val.{vptr}
use contract.Monad.{fact}
use contract.Running.{tables}
use prog.Wp.{WpFn}
use types.Kit.{‵, raw, ◌⊛◌, some, later, prop, ◌$◌, ◌∵◌, !, qed, done, move, keep, drop, use1, use3, split, join, fsplit, fjoin, fpack}
use types.Kit.{pick, await, regoal, suffices, group}
use types.Tokens.{lft_new, lft_end}
use types.Run.{enter, of_opd, addr, stop, no_more, and_then, returns}
use types.ByLocal.{alloc_all, pass_all, free_all, look_at, get, through, sets, lands_as}
use types.SemTy.{Body}
use denote.Builtin.{u64}
use denote.Exit.{yes}
use denote.Laws.{Is, shows}
use denote.Plain.{uint_Lawful}
use denote.Memory.{mem}
use denote.RawPtr.{Ptr, RawPtr, block_ptr, in_a_block, rawptr_vals, rawptr_Tells}
use denote.Ref.{MutRef}
use denote.Lend.{lends_ref, ref_back}
use denote.Signature.{plain}
use denote.Steps.{nothing, heard, peeks}
use denote.Triple.Call.{calls_at}
use denote.Triple.Clauses.{lasts}
use denote.Triple.Entry.{on_entry}
use denote.Triple.Spec.{triple_of}
use denote.Triple.Table.{framed}
use denote.Triple.Walked.{Stays, walk_of, stay_dropped, Goes-dropped, ends_at}
use Rattle.apa_c.specs.Handle.{apa_at}
use Rattle.apa_c.specs.Calls.{BackAnswer}
use Rattle.apa_c.specs.declared.table.Apa.{Apa}
use Rattle.apa_c.specs.contracts.table.Apa.{the_row as R}
use Rattle.apa_c.specs.contracts.apa_back as f
use Rattle.apa_c.proofs.apa_back.Statement.{statement}
use Rattle.apa_c.proofs.apa_back.Code as code
use Rattle.apa_c.specs.contracts.table.back as g
use Rattle.apa_c.proofs.table.back.Met.{met}

abbrev stayed : Stays f.ended.signature.params f.ended.kept
stayed = (stay_dropped _ yes, tt)

pub apa_back_spec : {M : Type 1} → statement M
apa_back_spec 𝓤 𝓛 𝓜 𝓡 wired =
    let c = f.clauses 𝓛 𝓜.mem 𝓡.returns in let W = walk_of 𝓛 f.ended stayed c in let 𝓣 = tables 𝓤 𝓛.H 𝓜 𝓡 𝓡.env in
    proved 𝓛 f.ended stayed c 𝓜 𝓡 (Goes-dropped 𝓛 0 (plain (λ _. RawPtr)) yes (λ κs x w. refl), tt)
    f.Key.name code.function (code.unfolded 𝓤 𝓛.H 𝓜 𝓡 wired)
    (λ κs. (rawptr_vals, tt)) (λ κs. (rawptr_Tells, tt)) (λ κs qs bounds a value are.
    let y : Ptr → W.Ghost = λ at. ((κs, qs, bounds, (at, tt), (rawptr_vals at, tt)), value) in
    qed 𝓛 (raw (on_entry 𝓛 f.signature κs qs a (y a.0).0.4) ∷ ‵ (apa_at a.0 value) ∷ []) ∵ drop ! $
    in_a_block ! a.0 (λ p. apa_at p value) (id⊢ 𝓤 _) (λ b o e.
    regoal ! (λ p. prop (WpFn 𝓤 𝓛.H 𝓣.C 𝓣.Λ code.function (rawptr_vals p ++ ([])) (W.post (y p)))) e refl $
    enter ! _ _ _ _ _ $ alloc_all ! (λ l. pass_all ! refl ((tt, tt), tt) $
    lft_new ! tt (λ α. let κ : List ℕ = α ∷ [] in move ! (1 ∷ []) $
    use1 𝓛 (later (some (λ (γ : ℕ). ‵ ((MutRef (named 0) κ R).own_val (record { ref_ptr = (b, o); ghost_name = γ; now = value })
    (vptr b o ∷ [])) ⊛ ‵ (flent κ (Body (mem R) b o γ)))))
    (lends_ref 𝓛 R (named 0) κ value b o) $ await ! tt $ pick ! (λ γ. split ! $
    -- [the loan; what the lender keeps; the token]
    sets ! (of_opd ! (get ! refl)) refl (tt, tt) $
    sets ! (addr ! (through ! refl (stop !))) refl (tt, tt) $
    let G = triple_of 𝓛 g.signature (g.spec 𝓛 𝓜.mem 𝓡.returns) in
    let lent : MutBor Apa = record { ref_ptr = (b, o); ghost_name = γ; now = value } in
    let z : G.Ghost = (((κ, tt), (full_share, tt), tt, (lent, tt), (vptr b o ∷ [], tt)), tt) in
    nothing ! $ move ! (1 ∷ 0 ∷ []) $ fjoin ! $
    nothing ! $ move ! (3 ∷ 0 ∷ []) $ join ! $ join ! $ nothing ! $ move ! (1 ∷ 0 ∷ []) $ join ! $ use1 𝓛 (raw (G.pre z)) (id⊢ 𝓤 _) $
    calls_at ! (framed 𝓤 𝓛.H 𝓜 (tables 𝓤 𝓛.H 𝓜 𝓡 𝓡.env)) G (met 𝓤 𝓛 𝓜 𝓡 (code.calls-apa_c::table::back 𝓡.env wired)) z
    (and_then ! (get ! refl) (no_more !)) (λ v.
    use1 𝓛 (later (some (λ (r : ℕ). ((‵ (flft κ full_share) ⊛ ‵ ftrue) ⊛ ‵ (u64.own_val r (v ∷ []))) ⊛
    some (λ (ws : Apa × Unit {0}). ‵ (lasts g.ended z.0.0 z.0.3 ws) ⊛ raw (fact 𝓤 (BackAnswer value r ws.0)))))) (id⊢ 𝓤 _) $
    await ! tt $ pick ! (λ r. split ! $ split ! $ split ! $ lft_end ! tt $ move ! (2 ∷ []) $
    peeks ! u64 (Is u64) (shows 𝓛 u64) r (v ∷ []) (λ is. lands_as ! refl refl ((uint_Lawful 𝓛 w64).typed r _ is).0 $
    -- [the result; α is over; nothing; the rest; what the lender keeps]
    move ! (3 ∷ []) $ pick ! (λ ws. let after : Apa = ws.0 in split ! $ move ! (1 ∷ []) $ heard ! _ (λ holds. fsplit ! $ fsplit ! $
    -- [its last value; its borrow; nothing; the result; α is over; nothing; what the lender keeps]
    move ! (4 ∷ 6 ∷ 0 ∷ []) $ use3 𝓛 (later (‵ ((mem R).own_at after b o))) (ref_back 𝓛 R κ γ after b o) $ await ! tt $
    use1 𝓛 (‵ (apa_at (block_ptr b o) after)) (id⊢ 𝓤 _) $
    fpack ! (BackAnswer value r after) (λ _. apa_at (block_ptr b o) after) holds $
    fpack ! Apa (λ x. fex (BackAnswer value r x) (λ _. apa_at (block_ptr b o) x)) after $
    returns ! (look_at ! 0 refl) $ free_all ! refl $ keep ! (3 ∷ 0 ∷ []) $
    suffices ! _ (ends_at 𝓛 f.ended stayed c (y (block_ptr b o)) v r (tt, tt) (tt, tt)) $
    nothing ! $ nothing ! $ join ! $ nothing ! $ group ! 3 $ done !))))))))))
