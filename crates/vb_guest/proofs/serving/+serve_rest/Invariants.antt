use Rattle.vb_guest.proofs.serving.+serve_rest.Given as goal

abbrev pub decreases-serve_rest : goal.decreases-serve_rest
decreases-serve_rest g l = l.left
