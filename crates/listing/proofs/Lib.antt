-- What the proofs of this program cite.
pub mod Laws
