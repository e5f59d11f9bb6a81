use Rattle.std.proofs.Common.{refl, sym, ◌∙◌, arith}
use Rattle.vb_script.{specs.Names.{form_of, forms}, proofs.ByLength.{by_length, none_of_length}}
use Rattle.vb_script.proofs.events.form_of.Goals as goal

pub returns-in-3 : goal.returns-in-3
unfolding form_of
returns-in-3 c = c.find.ensures ∙ sym (by_length forms c.args.word.now 3 c.in-3.is)

pub returns-in-4 : goal.returns-in-4
unfolding form_of
returns-in-4 c = c.find-in-4.ensures ∙ sym (by_length forms c.args.word.now 4 c.in-4.is)

pub returns-in-5 : goal.returns-in-5
unfolding form_of
returns-in-5 c = c.find-in-5.ensures ∙ sym (by_length forms c.args.word.now 5 c.in-5.is)

pub returns-in-6 : goal.returns-in-6
unfolding form_of
returns-in-6 c = c.find-in-6.ensures ∙ sym (by_length forms c.args.word.now 6 c.in-6.is)

pub returns-in-7 : goal.returns-in-7
unfolding form_of
returns-in-7 c = c.find-in-7.ensures ∙ sym (by_length forms c.args.word.now 7 c.in-7.is)

pub returns-in-8 : goal.returns-in-8
unfolding form_of
returns-in-8 c = c.find-in-8.ensures ∙ sym (by_length forms c.args.word.now 8 c.in-8.is)

pub returns-in_default : goal.returns-in_default
unfolding form_of
returns-in_default c =
    sym (none_of_length forms c.args.word.now refl (λ n least most. omega (arith, least, most)))
