-- What is written as events happen.
use Rattle.std.proofs.Common.{ℕ, List, [], ◌∷◌, ◌++◌, Option, subst, sym, append-nil, ap, ◌∙◌}
use Rattle.std.{proofs.lemmas.Grind.flat_map-append, specs.List.flat_map}
use Rattle.vb_model.specs.declared.replies.Reply.{Reply}
use Rattle.vb_reply.{specs.Held.Puts, specs.Replies.line_of, proofs.Putting.put_on}

-- the line of one more reply is put after those of the others
pub lines_on : (a b c : Option (List ℕ)) (held kept last : List ℕ) (replies : List Reply) (reply : Reply)
    → Puts a held b kept (flat_map line_of replies) → Puts b kept c last (line_of reply)
    → Puts a held c last (flat_map line_of (replies ++ reply ∷ []))
lines_on a b c held kept last replies reply p q = subst (Puts a held c last)
    (ap (λ (line : List ℕ). flat_map line_of replies ++ line) (sym (append-nil (line_of reply)))
    ∙ sym (flat_map-append line_of replies (reply ∷ [])))
    (put_on a b c held kept last (flat_map line_of replies) (line_of reply) p q)
