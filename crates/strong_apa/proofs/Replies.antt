-- Which replies say the result of an arrival, and which say who came in.
use Rattle.std.proofs.Common.{◌≡◌, Some, refl, sym, ap, ◌∙◌}
use Rattle.std.proofs.lemmas.Option.{same_Some}
use Rattle.strong_apa.specs.declared.reply.Came.{Came}
use Rattle.strong_apa.specs.declared.reply.Came.TheVariants as came
use Rattle.strong_apa.specs.declared.reply.Gone.{Gone}
use Rattle.strong_apa.specs.declared.reply.Reply.{Reply}
use Rattle.strong_apa.specs.declared.reply.Reply.TheVariants.{Placed, Displaced, Waits, Freed}
use Rattle.strong_apa.specs.Reply.{reply_of_came, reply_of_gone, came_of, gone_of}

came_back : (c : Came) → came_of (reply_of_came c) ≡ Some c
came_back (came.Placed chain) = refl
came_back (came.Displaced chain out reach) = refl
came_back (came.Waits reach) = refl

-- a reply that says so
pub came_said : (reply : Reply) (c : Came) → reply ≡ reply_of_came c → came_of reply ≡ Some c
came_said reply c e = ap came_of e ∙ came_back c

pub gone_said : (reply : Reply) (g : Gone) → reply ≡ reply_of_gone g → gone_of reply ≡ Some g
gone_said reply g e = ap gone_of e

-- and the other way round
pub came_says : (reply : Reply) (c : Came) → came_of reply ≡ Some c → reply ≡ reply_of_came c
came_says (Placed chain) c e = ap reply_of_came (same_Some (came.Placed chain) c e)
came_says (Displaced chain out reach) c e = ap reply_of_came (same_Some (came.Displaced chain out reach) c e)
came_says (Waits reach) c e = ap reply_of_came (same_Some (came.Waits reach) c e)
came_says _ c e = absurd (cc)

pub gone_says : (reply : Reply) (g : Gone) → gone_of reply ≡ Some g → reply ≡ reply_of_gone g
gone_says (Freed entered chain back) g e = ap reply_of_gone (same_Some (record { entered = entered; chain = chain; back = back }) g e)
gone_says _ g e = absurd (cc)

-- one reply says one thing
pub one_came : (c d : Came) → reply_of_came c ≡ reply_of_came d → c ≡ d
one_came c d e = same_Some c d (sym (came_back c) ∙ came_said (reply_of_came c) d e)

pub one_gone : (g h : Gone) → reply_of_gone g ≡ reply_of_gone h → g ≡ h
one_gone g h e = same_Some g h (gone_said (reply_of_gone g) h e)
