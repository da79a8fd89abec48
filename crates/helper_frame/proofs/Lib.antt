mod Same
mod OneProof
