use Rattle.vb_pages.proofs.areas.+put_rest.Given as goal

abbrev pub decreases-put_rest : goal.decreases-put_rest
decreases-put_rest l = l.whole
